-- Two pipelines that answer the same, wherever demand 3 speaks.
use Rattle.std.specs.Prelude.{true, false, ◌≡◌}
use Rattle.machine.specs.Types.{is_bad}
use Rattle.clocked.specs.Pipeline.{Piped}

-- THE SAME ANSWER: two that fit agree wherever demand 3 speaks
pub record SameAnswer (p q : Piped) : Type 0 where
  pub retired : p.pipeline.retired ≡ q.pipeline.retired
  pub counts : p.pipeline.cycles ≡ q.pipeline.cycles
  pub addresses : p.address_log ≡ q.address_log
  pub cycles : p.cycle_log ≡ q.cycle_log
  pub kinds : p.pipeline.kinds ≡ q.pipeline.kinds
  pub registers : p.pipeline.registers ≡ q.pipeline.registers
  pub status : p.pipeline.status ≡ q.pipeline.status
  pub last : p.pipeline.last ≡ q.pipeline.last
  pub blame : p.pipeline.blame ≡ q.pipeline.blame
  pub kept : is_bad p.pipeline.status ≡ false → p.pipeline.kept ≡ q.pipeline.kept
  pub stopped : is_bad p.pipeline.status ≡ true → (p.memory ≡ q.memory) × (p.pipeline.codes ≡ q.pipeline.codes)

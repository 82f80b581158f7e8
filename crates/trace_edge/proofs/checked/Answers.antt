use Rattle.answers.specs.Numbers.{numbered}
use Rattle.answers.specs.Numbers.{refused_on}
use Rattle.trace_edge.proofs.Ways.{refuses, lets, fresh, done, kind_mapped}
use mathlib.Core.Path.{refl}
use native.Mathlib.Omega.{arith}
use Rattle.trace_edge.proofs.checked.Goals as goal

pub returns-in_err-settings : goal.returns-in_err-settings
returns-in_err-settings c =
    rw (refused_on _ _ c.from_residual.ensures.1)
    (refuses c.args.image.now c.args.registers.now c.args.trace.now c.args.copy.now c.args.verdict.now _ _ _ _ c.settings.ensures _ c.in_err-settings.ensures.number (numbered _))

pub read_registers-requires : goal.read_registers-requires
read_registers-requires c = (lets c.args.image.now c.args.registers.now c.args.trace.now c.args.copy.now c.args.verdict.now _ _ _ _ c.settings.ensures _ c.in_ok-settings.ensures.number refl).whole

pub copy_from_slice-requires : goal.copy_from_slice-requires
copy_from_slice-requires c = (lets c.args.image.now c.args.registers.now c.args.trace.now c.args.copy.now c.args.verdict.now _ _ _ _ c.settings.ensures _ c.in_ok-settings.ensures.number refl).same

pub check-found-requires : goal.check-found-requires
check-found-requires c =
    fresh c.args.image.now c.args.registers.now c.args.trace.now c.args.copy.now c.args.verdict.now _ _ _ _ c.settings.ensures _ c.in_ok-settings.ensures.number refl _ _ _ _ _ c.in_ok-settings.ensures.chosen c.read_registers.ensures c.from.ensures (rw (← c.record_of-machine.ensures) at c.start-started.ensures) _ c.copy_from_slice.ensures.after

pub write_words-requires : goal.write_words-requires
write_words-requires c =
    omega (arith, (lets c.args.image.now c.args.registers.now c.args.trace.now c.args.copy.now c.args.verdict.now _ _ _ _ c.settings.ensures _ c.in_ok-settings.ensures.number refl).room)

pub returns : goal.returns
returns c =
    done c.args.image.now c.args.registers.now c.args.trace.now c.args.copy.now c.args.verdict.now _ _ _ _ c.settings.ensures _ c.in_ok-settings.ensures.number refl _ _ _ _ _ c.in_ok-settings.ensures.chosen c.read_registers.ensures c.from.ensures (rw (← c.record_of-machine.ensures) at c.start-started.ensures) _ _ _ _ _ c.copy_from_slice.ensures.after c.check-found.ensures
    (kind_mapped _ _ c.map_or.ensures) c.write_words.ensures

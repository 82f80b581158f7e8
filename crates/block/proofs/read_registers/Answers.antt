use Rattle.std.proofs.Common.{◌≡◌, ◌+◌, ◌*◌, refl, arith, rules}
use Rattle.machine.specs.Memory.{lent, load}
use Rattle.block.proofs.Blocks.{each_given, words_are}
use Rattle.block.proofs.read_registers.Goals as goal

pub returns : goal.returns
returns c =
    let items = c.from_fn.ensures.items in
    words_are 15 0 _ _ items.long (omega arith)
    (λ k h.
    let z : 0 + k ≡ k = omega arith in
    let i : 0 + 8 * k ≡ 8 * k = omega arith in
    rw (i) (rw z at (each_given _ (λ f. f.0.now ≡ c.args.block.now) (λ i y. y ≡ load (lent c.args.block.now) (8 * i)) (λ f i y q p e. search rules) 15 0 _ c.from_fn.result refl items.each k h)))

use Rattle.std.proofs.Common.{rules, refl}
use Rattle.std.proofs.lemmas.List.Recursion.{and_is}
use Rattle.text.specs.Hex.{is_hex, all_hex}
use Rattle.text.proofs.hex.all_digits.Goals as goal

pub returns : goal.returns
unfolding all_hex
returns c = and_is all_hex is_hex refl (λ _ _. refl) c.args.s.now 0 _ (search rules) (search rules)

use Rattle.std.proofs.Common.{rules, tests, nat_eq, ◌≡◌, ◌∙◌, ap, length}
use Rattle.std.specs.List.{position}
use Rattle.std.specs.Option.{unwrap_or}
use Rattle.std.proofs.lemmas.Iterator.{YieldsList-from_slice}
use Rattle.std.proofs.lemmas.Iterator.Search.{position_from_yields_List}
use Rattle.text.proofs.Places.{place_is}
use Rattle.text.proofs.parts.place.Goals as goal

pub returns : goal.returns
returns c =
    let p : c.position.result ≡ position (λ x. nat_eq x c.args.c) c.args.s.now =
    position_from_yields_List _ _ _ _ c.position.ensures.ran (YieldsList-from_slice c.args.s.now cc) (λ x b q k. search (rules, tests)) in
    c.unwrap_or.ensures ∙ (ap (λ o. unwrap_or o (length c.args.s.now)) p ∙ place_is c.args.c c.args.s.now)

-- A status that is not bad.
use Rattle.std.specs.Prelude.{◌≡◌, refl, false}
use Rattle.machine.specs.declared.Status.{Status}
use Rattle.machine.specs.declared.Status.TheVariants.{Aok as aok, Hlt as hlt, Adr as adr, Ins as ins}
use Rattle.machine.specs.Types.{is_bad}

pub sound : (x : Status) → is_bad x ≡ false → x ≡ aok
unfolding is_bad
sound aok h = refl
sound hlt h = cc
sound adr h = cc
sound ins h = cc

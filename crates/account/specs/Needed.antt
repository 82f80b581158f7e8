-- The exception to the need of the weakest premise.
use Rattle.std.specs.Prelude.{◌≡◌}
use Rattle.account.specs.Names.{adr}
use Rattle.account.specs.Names.{no_fault}
use Rattle.machine.specs.Plain.{Plain}

-- THE EXCEPTION: it has stopped with ADR, and no fetch is to blame, so at an access
abbrev pub FailedAccess : Plain → Type 0
FailedAccess s = (s.machine.status ≡ adr) × (s.machine.blame.fault ≡ no_fault)

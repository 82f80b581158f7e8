-- A law of `Parse` for each way out, in the order of the checks. What is past all of them is the instruction.
use Rattle.fetching.proofs.Parse.{end_lent, end_inside, outside, no_function_lem, cut_short, names_none, halts, fetches, second}
use mathlib.Core.Path.{◌∙◌, ap}
use mathlib.Core.Bool.{not}
use borrow.Author.Tests.{lt-ltb, le-ltb, le-leb, lt-leb}
use native.Mathlib.Omega.{arith}
use borrow.Author.Rules.{rules}
use Rattle.fetching.proofs.instruction_at.Goals as goal

pub returns-then-n-address : goal.returns-then-n-address
returns-then-n-address c = outside _ _ _ _ (end_lent _ _ _ _ c.code_end-n.ensures) c.if-n-address.true c.stopping.ensures

pub bounds-memory-at : goal.bounds-memory-at
bounds-memory-at c =
    omega (arith, c.if-n-address.false, end_inside _ _ _ _ c.code_end-n.ensures)

pub returns-then-not-known : goal.returns-then-not-known
returns-then-not-known c =
    no_function_lem _ _ _ _ (end_lent _ _ _ _ c.code_end-n.ensures) c.if-n-address.false c.functions_of-functions.ensures _ _ (ap not (le-ltb _ _ c.if-not-known.true)) c.not_in_table-unknown.ensures
    c.stopping-then-not-known.ensures

pub returns-then-not-whole : goal.returns-then-not-whole
returns-then-not-whole c =
    cut_short _ _ _ _ (end_lent _ _ _ _ c.code_end-n.ensures) c.if-n-address.false c.functions_of-functions.ensures _ (ap not (lt-ltb _ _ (search rules))) c.size_of-size.ensures _ (ap not (lt-leb _ _ c.if-not-whole.true)) c.stopping-then-not-whole.ensures

pub register_byte-pair-requires : goal.register_byte-pair-requires
register_byte-pair-requires c =
    λ h. omega (
      arith,
      second _ (λ e. h (c.byte_of-byte.ensures ∙ e)),
      c.if-not-whole.false,
      end_inside _ _ _ _ c.code_end-n.ensures,
    )

pub returns-then-misnamed : goal.returns-then-misnamed
returns-then-misnamed c =
    names_none _ _ _ _ (end_lent _ _ _ _ c.code_end-n.ensures) c.if-n-address.false c.functions_of-functions.ensures _ (ap not (lt-ltb _ _ c.if-not-known.false)) c.size_of-size.ensures _ _ _ (ap not (le-leb _ _ c.if-not-whole.false))
    c.byte_of-byte.ensures c.register_byte-pair.ensures c.misnamed.ensures _ c.if-misnamed.true c.stopping-then-misnamed.ensures

pub returns-then-code-eq-HALT : goal.returns-then-code-eq-HALT
returns-then-code-eq-HALT c =
    halts _ _ _ _ (end_lent _ _ _ _ c.code_end-n.ensures) c.if-n-address.false c.functions_of-functions.ensures _ (ap not (lt-ltb _ _ c.if-not-known.false)) c.size_of-size.ensures _ _ _ (ap not (le-leb _ _ c.if-not-whole.false))
    c.byte_of-byte.ensures c.register_byte-pair.ensures c.misnamed.ensures _ c.if-misnamed.false c.if-code-eq-HALT.true c.stopping-then-code-eq-HALT.ensures

pub constant_of-requires : goal.constant_of-requires
constant_of-requires c =
    omega (
      arith,
      c.if-not-whole.false,
      end_inside _ _ _ _ c.code_end-n.ensures,
    )

pub returns : goal.returns
returns c =
    fetches _ _ _ _ (end_lent _ _ _ _ c.code_end-n.ensures) c.if-n-address.false c.functions_of-functions.ensures _ (ap not (lt-ltb _ _ c.if-not-known.false)) c.size_of-size.ensures _ _ _ (ap not (le-leb _ _ c.if-not-whole.false))
    c.byte_of-byte.ensures c.register_byte-pair.ensures c.misnamed.ensures _ _ c.if-misnamed.false c.if-code-eq-HALT.false
    c.constant_of.ensures c.sum.ensures

use Rattle.std.proofs.Common.{arith, sym, ◌∙◌}
use Rattle.text.proofs.Fields.{digits_none, digit_none, digit_large, digit_more, all_read}
use Rattle.text.proofs.reading.read_digits.Goals as goal

pub loop-i-init : goal.loop-i-init
loop-i-init c = digits_none _ _ c.requires

pub returns-then-not-is_ascii_digit : goal.returns-then-not-is_ascii_digit
returns-then-not-is_ascii_digit c =
    let l = c.loop-i in
    digit_none _ _ l.i l.v _ l.invariant c.loop-i-test.true (sym c.is_ascii_digit.ensures.value ∙ c.if-not-is_ascii_digit.true)

pub returns-in_err-checked_mul : goal.returns-in_err-checked_mul
returns-in_err-checked_mul c =
    let l = c.loop-i in
    c.from_residual.ensures
    ∙ digit_large _ _ l.i l.v _ l.invariant c.loop-i-test.true (sym c.is_ascii_digit.ensures.value ∙ c.if-not-is_ascii_digit.false)
    (omega (arith, c.in_err-checked_mul.ensures))

pub returns-in_err-v : goal.returns-in_err-v
returns-in_err-v c =
    let l = c.loop-i in
    c.from_residual-in_err-v.ensures
    ∙ digit_large _ _ l.i l.v _ l.invariant c.loop-i-test.true (sym c.is_ascii_digit.ensures.value ∙ c.if-not-is_ascii_digit.false)
    (omega (arith, c.in_err-v.ensures, c.in_ok-checked_mul.ensures))

pub loop-i-preserved : goal.loop-i-preserved
loop-i-preserved c =
    let l = c.loop-i in
    digit_more _ _ l.i l.v _ l.invariant c.loop-i-test.true (sym c.is_ascii_digit.ensures.value ∙ c.if-not-is_ascii_digit.false) _
    (omega (arith, c.in_ok-v.ensures, c.in_ok-checked_mul.ensures)) (omega (arith, c.in_ok-v.ensures))

pub returns : goal.returns
returns c = all_read _ _ _ _ c.requires c.loop-i-test.false c.loop-i.auto.i-end c.loop-i.invariant

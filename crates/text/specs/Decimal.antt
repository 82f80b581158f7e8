-- Unsigned decimal numbers: the digits of a number, the number of digits, and that the two fit. Assumes nothing.
use Rattle.std.specs.Prelude.{◌≡◌, refl, Bool, true, false, cond, ◌&&◌, List, [], ◌∷◌, ◌++◌, ℕ, zero, suc, ◌+◌, ◌-◌, ◌*◌, ◌/◌, ◌%◌, ◌^◌, ◌≤◌, ◌<◌, ltb, leb, length, get_or}
use Rattle.std.proofs.Common.{ap, sym, ◌∙◌, div-add-mod', mod-lt, pow-suc, arith, length-append, lt-ltb, le-ltb, le-leb, ltb-true, ltb-false}
use Rattle.std.proofs.Math.Nat.{div-lt_self}
use Rattle.std.proofs.Math.ListN.{get_or-append}

-- the byte of a digit: `0` is 48
abbrev pub digit : ℕ → ℕ
digit d = 48 + d

-- below 10 one digit, else the last digit behind those of the tenth; so many tenths are taken at most
unfoldable pub digits : (tenths n : ℕ) → List ℕ
digits zero n = digit n ∷ []
digits (suc k) n =
    let longer = digits k (n / 10) ++ digit (n % 10) ∷ [] in
    cond (ltb n 10) (digit n ∷ []) longer

-- the decimal digits of a number, without a leading zero, 0 being `0`: no number has more tenths than units
unfoldable pub decimal : ℕ → List ℕ
decimal n = digits n n

abbrev pub is_digit : ℕ → Bool
is_digit b = leb 48 b && leb b 57

unfoldable pub all_digits : List ℕ → Bool
all_digits [] = true
all_digits (b ∷ t) = is_digit b && all_digits t

-- the number that digits say, read behind those of v
unfoldable pub read_behind : ℕ → List ℕ → ℕ
read_behind v [] = v
read_behind v (b ∷ t) = read_behind (10 * v + (b - 48)) t

abbrev pub value_of : List ℕ → ℕ
value_of t = read_behind 0 t

-- THE TWO RULES: a number below 10 is its digit, any other has its last digit behind those of its tenth
pub tenth_less : (n : ℕ) → 10 ≤ n → n / 10 < n
tenth_less n h = div-lt_self (omega arith) (omega arith)

enough : (j k n : ℕ) → n ≤ j → n ≤ k → digits j n ≡ digits k n
unfolding digits
enough zero zero n h i = refl
enough zero (suc k) n h i = sym (rw (lt-ltb n 10 (omega arith)))
enough (suc j) zero n h i = rw (lt-ltb n 10 (omega arith))
enough (suc j) (suc k) n h i = go (ltb n 10) refl (enough j k (n / 10))
  where
    go : (t : Bool) → ltb n 10 ≡ t → (n / 10 ≤ j → n / 10 ≤ k → digits j (n / 10) ≡ digits k (n / 10)) → digits (suc j) n ≡ digits (suc k) n
    go true e same = rw e
    go false e same =
        let l = tenth_less n (ltb-false n 10 e) in
        rw (e, same (omega arith) (omega arith))

pub decimal_one : (n : ℕ) → n < 10 → decimal n ≡ digit n ∷ []
unfolding decimal digits
decimal_one zero h = refl
decimal_one (suc n) h = rw (lt-ltb (suc n) 10 h)

pub decimal_more : (n : ℕ) → 10 ≤ n → decimal n ≡ decimal (n / 10) ++ digit (n % 10) ∷ []
unfolding decimal digits
decimal_more zero h = absurd (omega arith)
decimal_more (suc n) h =
    let l = tenth_less (suc n) h in
    rw (le-ltb (suc n) 10 h, enough n (suc n / 10) (suc n / 10) (omega arith) (omega arith))

-- so what holds of one digit, and of a number if of its tenth, holds of every number
within : (P : ℕ → Type 0) → ((n : ℕ) → n < 10 → P n) → ((n : ℕ) → 10 ≤ n → P (n / 10) → P n) → (k n : ℕ) → n ≤ k → P n
within P one more zero n h = one n (omega arith)
within P one more (suc k) n h = pick (ltb n 10) refl (within P one more k (n / 10))
  where
    pick : (t : Bool) → ltb n 10 ≡ t → (n / 10 ≤ k → P (n / 10)) → P n
    pick true e below = one n (ltb-true n 10 e)
    pick false e below =
        let l = tenth_less n (ltb-false n 10 e) in
        more n (ltb-false n 10 e) (below (omega arith))

pub by_tenths : (P : ℕ → Type 0) → ((n : ℕ) → n < 10 → P n) → ((n : ℕ) → 10 ≤ n → P (n / 10) → P n) → (n : ℕ) → P n
by_tenths P one more n = within P one more n n (omega arith)

-- THE LAWS
-- a number below a power of ten has at most that many digits
pub decimal_length : (n k : ℕ) → n < 10 ^ suc k → length (decimal n) ≤ suc k
decimal_length = by_tenths (λ n. (k : ℕ) → n < 10 ^ suc k → length (decimal n) ≤ suc k) one more
  where
    one : (n : ℕ) → n < 10 → (k : ℕ) → n < 10 ^ suc k → length (decimal n) ≤ suc k
    one n h k l = rw (decimal_one n h) (omega arith)

    more : (n : ℕ) → 10 ≤ n → ((k : ℕ) → n / 10 < 10 ^ suc k → length (decimal (n / 10)) ≤ suc k)
        → (k : ℕ) → n < 10 ^ suc k → length (decimal n) ≤ suc k
    more n h shorter zero l = absurd (omega arith)
    more n h shorter (suc k) l =
        let s = shorter k (omega (arith, div-add-mod' n 10, pow-suc 10 (suc k))) in
        rw (decimal_more n h, length-append) (omega arith)

-- a word has at most 20
pub word_length : (n : ℕ) → n < 2 ^ 64 → length (decimal n) ≤ 20
word_length n h = decimal_length n 19 (omega arith)

-- and its tenth one less
pub tenth_length : (n : ℕ) → n < 2 ^ 64 → length (decimal (n / 10)) ≤ 19
tenth_length n h = decimal_length (n / 10) 18 (omega (arith, div-add-mod' n 10))

pub decimal_some : (n : ℕ) → 0 < length (decimal n)
decimal_some =
    by_tenths (λ n. 0 < length (decimal n)) (λ n h. rw (decimal_one n h) (omega arith)) (λ n h i. rw (decimal_more n h, length-append) (omega arith))

-- every byte is a digit
digits_behind : (s t : List ℕ) → all_digits s ≡ true → all_digits t ≡ true → all_digits (s ++ t) ≡ true
unfolding all_digits
digits_behind [] t h i = i
digits_behind (b ∷ s) t h i = pick (is_digit b) refl (digits_behind s t)
  where
    pick : (x : Bool) → is_digit b ≡ x → (all_digits s ≡ true → all_digits t ≡ true → all_digits (s ++ t) ≡ true)
        → all_digits (b ∷ s ++ t) ≡ true
    pick true e rest = rw e (rest (rw e at h) i)
    pick false e rest = rw e (rw e at h)

is_digit_lem : (d : ℕ) → d < 10 → all_digits (digit d ∷ []) ≡ true
unfolding all_digits
is_digit_lem d h = rw (le-leb 48 (48 + d) (omega arith), le-leb (48 + d) 57 (omega arith))

pub decimal_digits : (n : ℕ) → all_digits (decimal n) ≡ true
decimal_digits =
    by_tenths (λ n. all_digits (decimal n) ≡ true) (λ n h. rw (decimal_one n h) (is_digit_lem n h))
    (λ n h i. rw (decimal_more n h) (digits_behind (decimal (n / 10)) (digit (n % 10) ∷ []) i (is_digit_lem (n % 10) (mod-lt n (omega arith)))))

-- the digits say the number
read_on_lem : (s t : List ℕ) (v : ℕ) → read_behind v (s ++ t) ≡ read_behind (read_behind v s) t
unfolding read_behind
read_on_lem [] t v = refl
read_on_lem (b ∷ s) t v = read_on_lem s t (10 * v + (b - 48))

read_digit : (v d : ℕ) → read_behind v (digit d ∷ []) ≡ 10 * v + d
unfolding read_behind
read_digit v d = omega arith

pub decimal_value : (n : ℕ) → value_of (decimal n) ≡ n
decimal_value =
    by_tenths (λ n. value_of (decimal n) ≡ n) (λ n h. rw (decimal_one n h) (read_digit 0 n ∙ omega arith))
    (λ n h i. rw (decimal_more n h, read_on_lem, i, read_digit) (omega (arith, div-add-mod' n 10)))

-- so two numbers with the same digits are the same
pub one_reading : (m n : ℕ) → decimal m ≡ decimal n → m ≡ n
one_reading m n e = sym (decimal_value m) ∙ (ap value_of e ∙ decimal_value n)

-- no digit but the only one is a leading zero
pub no_leading_zero : (n : ℕ) → 0 < n → 48 < get_or (decimal n) 0 0
no_leading_zero = by_tenths (λ n. 0 < n → 48 < get_or (decimal n) 0 0) (λ n h i. rw (decimal_one n h) (omega arith)) more
  where
    more : (n : ℕ) → 10 ≤ n → (0 < n / 10 → 48 < get_or (decimal (n / 10)) 0 0) → 0 < n → 48 < get_or (decimal n) 0 0
    more n h first i =
        rw (decimal_more n h, get_or-append (decimal (n / 10)) (digit (n % 10) ∷ []) 0 0 (decimal_some (n / 10)))
        (first (omega (arith, div-add-mod' n 10, mod-lt n {m = 10} (omega arith))))

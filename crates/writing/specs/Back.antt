-- "Reading the listing with #103 gives the same bytes in that range" (02, #104). Assumes nothing.
use Prim.Native.Nat.{ℕ, zero, suc, ◌+◌, ◌-◌, ◌*◌, ◌/◌, ◌%◌, ◌^◌, ◌<◌, ◌≤◌}
use Prim.Native.String.{String}
use Rattle.std.specs.Prelude.{◌≡◌, Bool, cond, not, ◌&&◌, ◌||◌, T, leb, ltb, eqb, length, get_or, take, drop, replicate}
use Rattle.std.proofs.Math.Path.{refl, ap}
use Rattle.std.proofs.Common.{sym, ◌∙◌, subst, div-add-mod', mod-lt, pow-suc, ltb→lt, length-append, length-take, length-drop, take_at, drop_at, length-take-le, take-add, drop-drop, get_or-take, get_or-drop, le-leb, ltb-true, ltb-false, leb-true, ne_eqb}
use Rattle.std.proofs.Math.Bool.{true, false}
use mathlib.Core.List.{List, [], ◌∷◌, ◌++◌, append_assoc}
use native.Mathlib.Omega.{arith}
use Rattle.std.proofs.lemmas.List.{length-replicate}
use Rattle.std.proofs.lemmas.List.Edits.{sets, sets-eq}
use Rattle.std.proofs.lemmas.Bool.{lt-leb}
use Rattle.machine.specs.Memory.{Memory, size}
use Rattle.machine.specs.Table.{row_of, table}
use Rattle.machine.specs.Fetch.{size_at, fetch}
use Rattle.published.specs.Lengths.{every_row}
use Rattle.text.specs.Parts.{Text, has, line_feed, lines}
use Rattle.text.specs.Hex.{is_hex, hex_value, all_hex, hex_from, hex_number, hex_bytes}
use Rattle.listing.specs.Grammar.{none, some, Record, remarked, address_of, bytes_of, end_of, laid, image_of, WellFormed, Listing, end, more}
use Rattle.listing.specs.Reading.{records}
use Rattle.listing.specs.Accepted.{Accepted}
use Rattle.listing.proofs.Accepted.{written_accepted}
use Rattle.machine.specs.declared.Instruction.{Instruction}
use Rattle.machine.specs.declared.Status.{Status}
use Rattle.machine.specs.declared.Status.TheVariants.{Aok as aok, Hlt as hlt, Adr as adr, Ins as ins}
use Rattle.text.specs.Bytes.{bytes}
use Rattle.text.specs.Decimal.{decimal, all_digits, decimal_digits}
use Rattle.text.specs.PartsLaws.{has_joined}
use Rattle.text.specs.Put.{sets_both}
use Rattle.register_lines.specs.Registers.{register_names, register_name}
use Rattle.writing.specs.Remark.{mnemonics, mnemonic, Operands, nothing, pair, immediate, store, load, target, single, operands_of, register, operands, remark}
use Rattle.writing.specs.HexText.{hex_digit, hex_digits, hex_text, hex_pairs}
use Rattle.writing.specs.Text.{within_end, whole, starts_at, crosses, line_bytes, line_at, lines_from, listing_of}

-- A DIGIT
digit_hex : (d : ℕ) → d < 16 → is_hex (hex_digit d) ≡ true
unfolding is_hex hex_digit
digit_hex d h = go (ltb d 10) refl
  where
    go : (t : Bool) → ltb d 10 ≡ t → is_hex (hex_digit d) ≡ true
    go true e = rw (e, le-leb 48 (48 + d) (omega arith), le-leb (48 + d) 57 (omega (arith, ltb-true d 10 e)))
    go false e =
        let l = ltb-false d 10 e in
        rw (e, lt-leb (87 + d) 57 (omega arith), lt-leb (87 + d) 70 (omega arith), le-leb 48 (87 + d) (omega arith), le-leb 65 (87 + d) (omega arith), le-leb 97 (87 + d) (omega arith), le-leb (87 + d) 102 (omega arith))

digit_value : (d : ℕ) → d < 16 → hex_value (hex_digit d) ≡ d
unfolding hex_value hex_digit
digit_value d h = go (ltb d 10) refl
  where
    go : (t : Bool) → ltb d 10 ≡ t → hex_value (hex_digit d) ≡ d
    go true e = rw (e, le-leb 48 (48 + d) (omega arith), le-leb (48 + d) 57 (omega (arith, ltb-true d 10 e))) (omega arith)
    go false e =
        let l = ltb-false d 10 e in
        rw (e, lt-leb (87 + d) 57 (omega arith), lt-leb (87 + d) 70 (omega arith), le-leb 48 (87 + d) (omega arith), le-leb 65 (87 + d) (omega arith), le-leb 97 (87 + d) (omega arith), le-leb (87 + d) 102 (omega arith)) (omega arith)

-- DIGITS
hex_joined : (s t : Text) → all_hex s ≡ true → all_hex t ≡ true → all_hex (s ++ t) ≡ true
unfolding all_hex
hex_joined [] t h k = k
hex_joined (c ∷ s) t h k = go (is_hex c) h (hex_joined s t)
  where
    go : (b : Bool) → b && all_hex s ≡ true → (all_hex s ≡ true → all_hex t ≡ true → all_hex (s ++ t) ≡ true) → b && all_hex (s ++ t) ≡ true
    go true e ih = ih e k
    go false e ih = e

from_joined : (s t : Text) (v : ℕ) → hex_from v (s ++ t) ≡ hex_from (hex_from v s) t
unfolding hex_from
from_joined [] t v = refl
from_joined (c ∷ s) t v = from_joined s t (16 * v + hex_value c)

last_hex : (n : ℕ) → all_hex (hex_digit (n % 16) ∷ []) ≡ true
unfolding all_hex
last_hex n = rw (digit_hex (n % 16) (mod-lt n (omega arith)))

digits_hex : (k n : ℕ) → all_hex (hex_digits k n) ≡ true
unfolding hex_digits
digits_hex zero n = last_hex n
digits_hex (suc k) n = go (ltb n 16) (digits_hex k (n / 16))
  where
    go : (b : Bool) → all_hex (hex_digits k (n / 16)) ≡ true → all_hex (cond b (hex_digit (n % 16) ∷ []) (hex_digits k (n / 16) ++ hex_digit (n % 16) ∷ [])) ≡ true
    go true ih = last_hex n
    go false ih = hex_joined (hex_digits k (n / 16)) _ ih (last_hex n)

digits_length : (k n : ℕ) → (1 ≤ length (hex_digits k n)) × (length (hex_digits k n) ≤ suc k)
unfolding hex_digits
digits_length zero n = (omega arith, omega arith)
digits_length (suc k) n = go (ltb n 16) (digits_length k (n / 16))
  where
    go : (b : Bool) → (1 ≤ length (hex_digits k (n / 16))) × (length (hex_digits k (n / 16)) ≤ suc k)
        → let t = cond b (hex_digit (n % 16) ∷ []) (hex_digits k (n / 16) ++ hex_digit (n % 16) ∷ []) in
        (1 ≤ length t) × (length t ≤ suc (suc k))
    go true ih = (omega arith, omega arith)
    go false ih = (simp length-append (omega arith), simp length-append (omega (arith, ih.1)))

pub address_length : (n : ℕ) → length (hex_text n) ≤ 16
unfolding hex_text
address_length n = (digits_length 15 n).1

digits_value : (k n : ℕ) → n < 16 ^ suc k → hex_from 0 (hex_digits k n) ≡ n
unfolding hex_digits hex_from
digits_value zero n h = rw (digit_value (n % 16) (mod-lt n (omega arith))) (omega arith)
digits_value (suc k) n h = go (ltb n 16) refl (digits_value k (n / 16))
  where
    go : (b : Bool) → ltb n 16 ≡ b → (n / 16 < 16 ^ suc k → hex_from 0 (hex_digits k (n / 16)) ≡ n / 16)
        → hex_from 0 (cond b (hex_digit (n % 16) ∷ []) (hex_digits k (n / 16) ++ hex_digit (n % 16) ∷ [])) ≡ n
    go true e ih = rw (digit_value (n % 16) (mod-lt n (omega arith))) (omega (arith, ltb-true n 16 e))
    go false e ih =
        let q = ih (omega (arith, div-add-mod' n 16, pow-suc 16 (suc k))) in
        let r = digit_value (n % 16) (mod-lt n (omega arith)) in
        rw (from_joined (hex_digits k (n / 16)) (hex_digit (n % 16) ∷ []) 0, q, r) (omega (arith, div-add-mod' n 16))

-- BYTES
abbrev pub Bytes : List ℕ → Type 0
Bytes b = (k : ℕ) → k < length b → get_or b k 0 < 256

pairs_hex : (b : List ℕ) → Bytes b → all_hex (hex_pairs b) ≡ true
unfolding hex_pairs all_hex
pairs_hex [] h = refl
pairs_hex (x ∷ b) h =
    let l : x < 256 = h 0 (omega arith) in
    rw (digit_hex (x / 16) (omega arith), digit_hex (x % 16) (mod-lt x (omega arith))) (pairs_hex b (λ k i. h (suc k) (omega arith)))

pub pairs_length : (b : List ℕ) → length (hex_pairs b) ≡ 2 * length b
unfolding hex_pairs
pairs_length [] = refl
pairs_length (x ∷ b) = omega (arith, pairs_length b)

pairs_bytes : (b : List ℕ) → Bytes b → hex_bytes (hex_pairs b) ≡ b
unfolding hex_pairs hex_bytes
pairs_bytes [] h = refl
pairs_bytes (x ∷ b) h =
    let l : x < 256 = h 0 (omega arith) in
    let e : 16 * hex_value (hex_digit (x / 16)) + hex_value (hex_digit (x % 16)) ≡ x = rw (digit_value (x / 16) (omega arith), digit_value (x % 16) (mod-lt x (omega arith))) (omega (arith, div-add-mod' x 16)) in
    rw (e, pairs_bytes b (λ k i. h (suc k) (omega arith))) refl

-- A REMARK stays on its line
second : (a b : Bool) → a && b ≡ true → b ≡ true
second true b h = h
second false b h = cc

both_hold : (a b : Bool) → T (a && b) → T a × T b
both_hold true b t = (tt, t)
both_hold false b t = absurd t

digits_without : (t : Text) → all_digits t ≡ true → has line_feed t ≡ false
unfolding all_digits has
digits_without [] h = refl
digits_without (b ∷ t) h = go (leb 48 b) refl h (digits_without t)
  where
    go : (x : Bool) → leb 48 b ≡ x → (x && leb b 57) && all_digits t ≡ true → (all_digits t ≡ true → has line_feed t ≡ false) → eqb b line_feed || has line_feed t ≡ false
    go true e k ih = rw (ne_eqb b line_feed (λ q. omega (arith, leb-true 48 b e))) (ih (second (leb b 57) (all_digits t) k))
    go false e k ih = cc

abbrev every : {A : Type 0} → (A → Bool) → List A → Bool
every f [] = true
every f (x ∷ xs) = f x && every f xs

at : {A : Type 0} (f : A → Bool) (xs : List A) (d : A) → T (every f xs) → T (f d) → (k : ℕ) → T (f (get_or xs k d))
at f [] d t e k = e
at f (x ∷ xs) d t e zero = (both_hold (f x) (every f xs) t).0
at f (x ∷ xs) d t e (suc k) = at f xs d (both_hold (f x) (every f xs) t).1 e k

abbrev feedless : String → Bool
feedless s = not (has line_feed (bytes s))

without : (b : Bool) → T (not b) → b ≡ false
without true t = absurd t
without false t = refl

name_feedless : (k : ℕ) → has line_feed (bytes (register_name k)) ≡ false
unfolding register_name register_names bytes has
name_feedless k = without _ (at feedless register_names "" tt tt k)

mnemonic_feedless : (code function : ℕ) → has line_feed (mnemonic code function) ≡ false
unfolding mnemonic mnemonics bytes has
mnemonic_feedless code function = without _ (at feedless (get_or mnemonics code []) "" (at (every feedless) mnemonics [] tt tt code) tt function)

decimal_feedless : (n : ℕ) → has line_feed (decimal n) ≡ false
decimal_feedless n = digits_without (decimal n) (decimal_digits n)

register_feedless : (k : ℕ) → has line_feed (register k) ≡ false
unfolding register bytes has
register_feedless k = name_feedless k

operands_feedless : (o : Operands) (a b c : ℕ) → has line_feed (operands o a b c) ≡ false
unfolding operands bytes has
operands_feedless nothing a b c = refl
operands_feedless pair a b c = simp (has_joined, register_feedless)
operands_feedless immediate a b c = simp (has_joined, register_feedless, decimal_feedless)
operands_feedless store a b c = simp (has_joined, register_feedless, decimal_feedless)
operands_feedless load a b c = simp (has_joined, register_feedless, decimal_feedless)
operands_feedless target a b c = decimal_feedless c
operands_feedless single a b c = register_feedless a

remark_feedless : (s : Status) (i : Instruction) → has line_feed (remark s i) ≡ false
unfolding remark has
remark_feedless aok i = rw (has_joined, mnemonic_feedless) (operands_feedless (get_or operands_of i.code nothing) i.ra i.rb i.constant)
remark_feedless hlt i = mnemonic_feedless 0 0
remark_feedless adr i = refl
remark_feedless ins i = refl

-- A LINE: its bytes
small_size : (code : ℕ) → T (ltb 0 (row_of code).size && ltb (row_of code).size 11)
unfolding table
small_size code = every_row (λ row. ltb 0 row.size && ltb row.size 11) tt tt code

pub size_bounds : (m : Memory) (a : ℕ) → (1 ≤ size_at m a) × (size_at m a ≤ 10)
unfolding size_at
size_bounds m a =
    let n = (row_of (get_or m.bytes a 0 / 16)).size in
    let p = both_hold (ltb 0 n) (ltb n 11) (small_size (get_or m.bytes a 0 / 16)) in
    (omega (arith, ltb→lt 0 n p.0), omega (arith, ltb→lt n 11 p.1))

pub whole_within : (cut : Bool) (m : Memory) (a e : ℕ) → whole cut m a e ≡ true → a + size_at m a ≤ e
unfolding whole within_end
whole_within cut m a e h = leb-true (a + size_at m a) e (second (starts_at m a) _ (second (not cut) _ h))

-- between 1 and 10, and inside the range
pub line_bytes_lem : (cut : Bool) (m : Memory) (a e : ℕ) → a < e → (1 ≤ line_bytes cut m a e) × (line_bytes cut m a e ≤ 10) × (a + line_bytes cut m a e ≤ e)
unfolding line_bytes
line_bytes_lem cut m a e h = go (whole cut m a e) refl
  where
    go : (b : Bool) → whole cut m a e ≡ b → (1 ≤ cond b (size_at m a) 1) × (cond b (size_at m a) 1 ≤ 10) × (a + cond b (size_at m a) 1 ≤ e)
    go true q = ((size_bounds m a).0, (size_bounds m a).1, whole_within cut m a e q)
    go false q = (omega arith, omega arith, omega arith)

taken_length : (b : List ℕ) (a n : ℕ) → a + n ≤ length b → length (take n (drop a b)) ≡ n
taken_length b a n h = simp (length-take, length-drop) (omega arith)

taken_bytes : (b : List ℕ) (a n : ℕ) → Bytes b → a + n ≤ length b → Bytes (take n (drop a b))
taken_bytes b a n h l k i =
    let j : k < n = omega (arith, taken_length b a n l) in
    rw (get_or-take n (drop a b) k 0 j, get_or-drop a b k 0) (h (a + k) (omega arith))

module _ (m : Memory) (bytes_there : Bytes m.bytes) (e : ℕ) (inside : e ≤ size m) (words : size m ≤ 2 ^ 64) where
  module _ (cut : Bool) (a : ℕ) (before : a < e) where
    long : length (take (line_bytes cut m a e) (drop a m.bytes)) ≡ line_bytes cut m a e
    long = taken_length m.bytes a (line_bytes cut m a e) (omega (arith, (line_bytes_lem cut m a e before).2))

    line_address : address_of (line_at cut m a e) ≡ a
    unfolding address_of line_at hex_text hex_number
    line_address = digits_value 15 a (omega arith)

    line_said : bytes_of (line_at cut m a e) ≡ take (line_bytes cut m a e) (drop a m.bytes)
    unfolding bytes_of line_at
    line_said = pairs_bytes _ (taken_bytes m.bytes a (line_bytes cut m a e) bytes_there (omega (arith, (line_bytes_lem cut m a e before).2)))

    line_end : end_of (line_at cut m a e) ≡ a + line_bytes cut m a e
    unfolding end_of
    line_end = cc (line_address, line_said, long)

    line_remark : has line_feed (remarked (line_at cut m a e).remark) ≡ false
    unfolding line_at remarked has
    line_remark = go (whole cut m a e)
      where
        go : (b : Bool) → has line_feed (remarked (cond b (some (remark (fetch m a).status (fetch m a))) none)) ≡ false
        go true = remark_feedless (fetch m a).status (fetch m a)
        go false = refl

    well_formed : WellFormed (line_at cut m a e)
    unfolding line_at hex_text
    well_formed =
        let p = line_bytes_lem cut m a e before in
        record {
          address_hex = digits_hex 15 a;
          address_digits = digits_length 15 a;
          bytes_hex = pairs_hex _ (taken_bytes m.bytes a (line_bytes cut m a e) bytes_there (omega (arith, p.2)));
          bytes_digits = (line_bytes cut m a e, pairs_length _ ∙ ap (λ (n : ℕ). 2 * n) long, p.0, omega (arith, p.1));
          on_its_line = line_remark;
        }

  -- THE LINES make a listing
  listing : (k : ℕ) (cut : Bool) (a : ℕ) → Listing (size m) a (lines_from k cut m a e)
  unfolding lines_from
  listing zero cut a = end
  listing (suc k) cut a = go (ltb a e) refl (listing k (crosses cut m a e) (a + line_bytes cut m a e))
    where
      rest : List Record
      rest = lines_from k (crosses cut m a e) m (a + line_bytes cut m a e) e

      go : (b : Bool) → ltb a e ≡ b → Listing (size m) (a + line_bytes cut m a e) rest → Listing (size m) a (cond b (line_at cut m a e ∷ rest) [])
      go true q ih =
          let before = ltb-true a e q in
          more {free = a} (well_formed cut a before) (omega (arith, line_address cut a before)) (omega (arith, line_end cut a before, (line_bytes_lem cut m a e before).2))
          (subst (λ (n : ℕ). Listing (size m) n rest) (sym (line_end cut a before)) ih)
      go false q ih = end

  -- and lay the bytes of the range
  laid_range : (k : ℕ) (cut : Bool) (a : ℕ) (u : List ℕ) → e ≤ a + k → laid (lines_from k cut m a e) u ≡ sets u a (take (e - a) (drop a m.bytes))
  unfolding lines_from laid
  laid_range zero cut a u h =
      let z : e - a ≡ 0 = omega arith in
      rw z
  laid_range (suc k) cut a u h = go (ltb a e) refl (laid_range k (crosses cut m a e) (a + line_bytes cut m a e))
    where
      n : ℕ
      n = line_bytes cut m a e

      rest : List Record
      rest = lines_from k (crosses cut m a e) m (a + n) e

      go : (b : Bool) → ltb a e ≡ b → ((v : List ℕ) → e ≤ a + n + k → laid rest v ≡ sets v (a + n) (take (e - (a + n)) (drop (a + n) m.bytes)))
          → laid (cond b (line_at cut m a e ∷ rest) []) u ≡ sets u a (take (e - a) (drop a m.bytes))
      go true q ih =
          let before = ltb-true a e q in
          let p = line_bytes_lem cut m a e before in
          let s = take n (drop a m.bytes) in
          let t = take (e - (a + n)) (drop (a + n) m.bytes) in
          let here : sets u (address_of (line_at cut m a e)) (bytes_of (line_at cut m a e)) ≡ sets u a s = cc (line_address cut a before, line_said cut a before) in
          let range : n + (e - (a + n)) ≡ e - a = omega (arith, p.2) in
          let all : take (e - a) (drop a m.bytes) ≡ s ++ t = ap (λ (k : ℕ). take k (drop a m.bytes)) (sym range)
          ∙ (take-add n (e - (a + n)) (drop a m.bytes) ∙ ap (λ (l : List ℕ). s ++ take (e - (a + n)) l) (drop-drop n a m.bytes)) in
          ap (laid rest) here
          ∙ (ih (sets u a s) (omega (arith, p.0))
          ∙ (ap (λ (k : ℕ). sets (sets u a s) (a + k) t) (sym (long cut a before)) ∙ (sym (sets_both s t u a) ∙ ap (sets u a) (sym all))))
      go false q ih =
          let l = ltb-false a e q in
          let z : e - a ≡ 0 = omega arith in
          rw z

lower : {size free : ℕ} {rs : List Record} → Listing size free rs → Listing size 0 rs
lower end = end
lower (more w above within rest) = more {free = 0} w (omega arith) within rest

-- THE ROUND TRIP: the text is accepted, and read as the bytes of the range, the others 0
pub reads_back : (m : Memory) (start e : ℕ) → Bytes m.bytes → start ≤ e → e ≤ size m → size m ≤ 2 ^ 64
    → Accepted (size m) (listing_of m start e)
    × (image_of (size m) (records (lines (listing_of m start e))) ≡ sets (replicate (size m) 0) start (take (e - start) (drop start m.bytes)))
unfolding listing_of image_of
reads_back m start e b h i w =
    let r = written_accepted (lower (listing m b e i w (e - start) false start)) in
    (r.0, rw r.1 (laid_range m b e i w (e - start) false start (replicate (size m) 0) (omega arith)))

-- "the same bytes in that range"
pub same_bytes : (m : Memory) (start e : ℕ) → Bytes m.bytes → start ≤ e → e ≤ size m → size m ≤ 2 ^ 64
    → take (e - start) (drop start (image_of (size m) (records (lines (listing_of m start e))))) ≡ take (e - start) (drop start m.bytes)
same_bytes m start e b h i w =
    let zeros : List ℕ = replicate (size m) 0 in
    let range = take (e - start) (drop start m.bytes) in
    let n : length range ≡ e - start = taken_length m.bytes start (e - start) (omega arith) in
    let f : length (take start zeros) ≡ start = length-take-le start zeros (omega (arith, length-replicate {A = ℕ} (size m) 0)) in
    let l : sets zeros start range ≡ take start zeros ++ (range ++ drop (start + length range) zeros) = sets-eq range zeros start (omega (arith, length-replicate {A = ℕ} (size m) 0))
    ∙ append_assoc (take start zeros) range _ in
    rw ((reads_back m start e b h i w).1, l, drop_at (take start zeros) (range ++ drop (start + length range) zeros) start f) (take_at range _ (e - start) n)

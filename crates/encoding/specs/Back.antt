-- "fetching those bytes gives it back" (02, #104), and two instructions with the same bytes are the same. Assumes nothing.
use Rattle.std.specs.Prelude.{ℕ, zero, suc, ◌+◌, ◌-◌, ◌*◌, ◌/◌, ◌%◌, ◌^◌, ◌<◌, ◌≡◌, refl, Bool, true, false, ◌&&◌, ◌||◌, T, leb, ltb, eqb, get_or, drop, ◌≤◌}
use Rattle.std.proofs.Math.Path.{ap}
use Rattle.std.proofs.Common.{sym, ◌∙◌, div-add-mod', pow-suc, arith, ltb→lt, length-append}
use Rattle.std.proofs.Math.Bool.{cond}
use mathlib.Core.List.{List, [], ◌∷◌, ◌++◌}
use Rattle.std.proofs.Math.ListN.{length, take}
use Rattle.std.proofs.Math.Seq.{take_at, take-length, append_snoc, get_or-append_seam, drop-append_seam}
use borrow.Author.Tests.{leb-false, ltb-false, ne_eqb, le-ltb}
use Rattle.machine.specs.declared.Instruction.{Instruction}
use Rattle.machine.specs.declared.Status.TheVariants.{Aok as aok}
use Rattle.machine.specs.Types.{no_fault}
use Rattle.machine.specs.Words.{sum, number}
use Rattle.machine.specs.Memory.{lent, seen_to, code_end}
use Rattle.machine.specs.Table.{RegisterByte, no_byte, both_named, only_b, only_a, table, row_of}
use Rattle.machine.specs.Fetch.{size_at, own_bytes, names_a, names_b, half, misnamed, checked, constant_in, parsed, fetch}
use Rattle.laws.specs.Tests.{neither}
use Rattle.published.specs.Lengths.{every_row, length_rule, parts, has_register_byte}
use Rattle.encoding.specs.Encode.{Fields, fields, encode_refused, least_first, pair, tail, form}

-- the fields that the instruction's form uses; the others are "none" and 0, as a fetch gives them
unfoldable pub used : Fields → Fields
used i =
    let row = row_of i.code in
    fields i.code i.function (half (names_a row.byte) i.ra) (half (names_b row.byte) i.rb) (cond (ltb 8 row.size) i.constant 0)

-- the instruction at an address that says this; a halt is fetched as a nop with HLT
unfoldable pub instruction_at : ℕ → Fields → Instruction
instruction_at a i =
    checked false false false false (eqb i.code 0)
    (record {
      address = a;
      status = aok;
      code = i.code;
      function = i.function;
      ra = i.ra;
      rb = i.rb;
      constant = i.constant;
      next = sum a (row_of i.code).size;
      fault = no_fault;
    })

-- THE BYTES, read as a fetch reads them
unfoldable pub fields_in : List ℕ → Fields
fields_in b =
    let code = get_or b 0 0 / 16 in
    let row = row_of code in
    fields code (get_or b 0 0 % 16) (half (names_a row.byte) (get_or b 1 0 / 16)) (half (names_b row.byte) (get_or b 1 0 % 16)) (constant_in b row.size)

-- a constant's bytes
number_least : (k : ℕ) (f : List ℕ) (v : ℕ) → v < 256 ^ k → number k (f ++ least_first k v) (length f) ≡ v
unfolding number least_first
number_least zero f v h = omega arith
number_least (suc k) f v h =
    let g = f ++ v % 256 ∷ [] in
    let l : length f + 1 ≡ length g = simp length-append in
    let r : f ++ v % 256 ∷ least_first k (v / 256) ≡ g ++ least_first k (v / 256) = sym (append_snoc f (v % 256) (least_first k (v / 256))) in
    let n : number k (f ++ v % 256 ∷ least_first k (v / 256)) (length f + 1) ≡ v / 256 = cc (number_least k g (v / 256) (omega (arith, div-add-mod' v 256, pow-suc 256 k)), r, l) in
    rw (n, get_or-append_seam f (v % 256) (least_first k (v / 256)) 0) (omega (arith, div-add-mod' v 256))

least_length : (k v : ℕ) → length (least_first k v) ≡ k
unfolding least_first
least_length zero v = refl
least_length (suc k) v = ap suc (least_length k (v / 256))

pair_length : (y : RegisterByte) (a b : ℕ) → length (pair y a b) ≡ cond (has_register_byte y) 1 0
unfolding pair has_register_byte
pair_length y a b = go (names_a y || names_b y)
  where
    go : (t : Bool) → length (cond t ((16 * half (names_a y) a + half (names_b y) b) ∷ []) []) ≡ cond t 1 0
    go true = refl
    go false = refl

tail_length : (n v : ℕ) → length (tail n v) ≡ cond (ltb 8 n) 8 0
unfolding tail
tail_length n v = go (ltb 8 n)
  where
    go : (t : Bool) → length (cond t (least_first 8 v) []) ≡ cond t 8 0
    go true = least_length 8 v
    go false = refl

-- the form is as long as the table says
pub form_length : (i : Fields) → length (form i) ≡ (row_of i.code).size
unfolding form parts
form_length i =
    let row = row_of i.code in
    let p = pair_length row.byte i.ra i.rb in
    let t = tail_length row.size i.constant in
    simp length-append (omega (arith, p, t, length_rule i.code))

-- at most ten bytes
short_row : (code : ℕ) → T (ltb (row_of code).size 11)
unfolding table
short_row code = every_row (λ row. ltb row.size 11) tt tt code

pub form_short : (i : Fields) → length (form i) ≤ 10
form_short i = omega (arith, form_length i, ltb→lt (row_of i.code).size 11 (short_row i.code))

-- the halves of the register byte, each below 16
high : (y : RegisterByte) (a b : ℕ) (t : List ℕ) → (T (names_a y) → a < 15) → (T (names_b y) → b < 15)
    → half (names_a y) (get_or (pair y a b ++ t) 0 0 / 16) ≡ half (names_a y) a
unfolding pair names_a names_b half
high no_byte a b t h k = refl
high both_named a b t h k = omega (arith, h tt, k tt)
high only_b a b t h k = refl
high only_a a b t h k = omega (arith, h tt)

low : (y : RegisterByte) (a b : ℕ) (t : List ℕ) → (T (names_a y) → a < 15) → (T (names_b y) → b < 15)
    → half (names_b y) (get_or (pair y a b ++ t) 0 0 % 16) ≡ half (names_b y) b
unfolding pair names_a names_b half
low no_byte a b t h k = refl
low both_named a b t h k = omega (arith, h tt, k tt)
low only_b a b t h k = omega (arith, k tt)
low only_a a b t h k = refl

well_named : (y : RegisterByte) (a b : ℕ) → (T (names_a y) → a < 15) → (T (names_b y) → b < 15) → misnamed y (half (names_a y) a) (half (names_b y) b) ≡ false
unfolding misnamed names_a names_b half
well_named no_byte a b h k = refl
well_named both_named a b h k = cc (ne_eqb a 15 (λ e. omega (arith, h tt)), ne_eqb b 15 (λ e. omega (arith, k tt)))
well_named only_b a b h k = cc (ne_eqb b 15 (λ e. omega (arith, k tt)))
well_named only_a a b h k = cc (ne_eqb a 15 (λ e. omega (arith, h tt)))

-- the constant: the last eight bytes
constant_back : (f : List ℕ) (n v : ℕ) → length f + cond (ltb 8 n) 8 0 ≡ n → v < 2 ^ 64 → constant_in (f ++ tail n v) n ≡ cond (ltb 8 n) v 0
unfolding constant_in tail
constant_back f n v e h = go (ltb 8 n) e
  where
    go : (t : Bool) → length f + cond t 8 0 ≡ n → cond t (number 8 (f ++ cond t (least_first 8 v) []) (n - 8)) 0 ≡ cond t v 0
    go true l =
        let k : n - 8 ≡ length f = omega arith in
        rw k (number_least 8 f v (omega arith))
    go false l = refl

-- a test that fails, joined by "and" to one that may hold
named_small : (t : Bool) (x : ℕ) → t && ltb 14 x ≡ false → T t → x < 15
named_small true x e u = omega (arith, ltb-false 14 x e)
named_small false x e u = elim u [ ]

few_functions : (code : ℕ) → (row_of code).functions < 16
unfolding table
few_functions code = ltb→lt _ _ (every_row (λ row. ltb row.functions 16) tt tt code)

some_bytes : (code : ℕ) → 0 < (row_of code).size
unfolding parts
some_bytes code = omega (arith, length_rule code)

-- what a fetch makes of an instruction's bytes
unfoldable taken : ℕ → ℕ → Fields → Instruction
taken a n i =
    let row = row_of i.code in
    checked (eqb n 0) (leb row.functions i.function) (ltb n row.size) (misnamed row.byte i.ra i.rb) (eqb i.code 0)
    (record {
      address = a;
      status = aok;
      code = i.code;
      function = i.function;
      ra = i.ra;
      rb = i.rb;
      constant = i.constant;
      next = sum a (row_of i.code).size;
      fault = no_fault;
    })

parsed_is : (a : ℕ) (b : List ℕ) → parsed a b ≡ taken a (length b) (fields_in b)
unfolding parsed taken fields_in
parsed_is a b = refl

-- what is not refused is small
module _ (i : Fields) (valid : encode_refused i ≡ false) where
  refusals : (leb (row_of i.code).functions i.function ≡ false)
      × ((names_a (row_of i.code).byte && ltb 14 i.ra) || (names_b (row_of i.code).byte && ltb 14 i.rb) ≡ false)
  unfolding encode_refused
  refusals = neither (leb (row_of i.code).functions i.function) _ valid

  names : (names_a (row_of i.code).byte && ltb 14 i.ra ≡ false) × (names_b (row_of i.code).byte && ltb 14 i.rb ≡ false)
  names = neither (names_a (row_of i.code).byte && ltb 14 i.ra) _ refusals.1

  in_table : leb (row_of i.code).functions i.function ≡ false
  in_table = refusals.0

  pub a_small : T (names_a (row_of i.code).byte) → i.ra < 15
  a_small = named_small (names_a (row_of i.code).byte) i.ra names.0

  pub b_small : T (names_b (row_of i.code).byte) → i.rb < 15
  b_small = named_small (names_b (row_of i.code).byte) i.rb names.1

  pub function_small : i.function < 16
  function_small = omega (arith, few_functions i.code, leb-false (row_of i.code).functions i.function in_table)

module _ (i : Fields) (valid : encode_refused i ≡ false) (word : i.constant < 2 ^ 64) where
  pub read_back : fields_in (form i) ≡ used i
  unfolding fields_in form used parts
  read_back =
      let row = row_of i.code in
      let first = 16 * i.code + i.function in
      let q : first / 16 ≡ i.code = omega (arith, function_small i valid) in
      let r : first % 16 ≡ i.function = omega (arith, function_small i valid) in
      let t = tail row.size i.constant in
      let long : length (first ∷ pair row.byte i.ra i.rb) + cond (ltb 8 row.size) 8 0 ≡ row.size = omega (arith, pair_length row.byte i.ra i.rb, length_rule i.code) in
      rw q
      (cc (
        r,
        high row.byte i.ra i.rb t (a_small i valid) (b_small i valid),
        low row.byte i.ra i.rb t (a_small i valid) (b_small i valid),
        constant_back (first ∷ pair row.byte i.ra i.rb) row.size i.constant long word,
      ))

  first_byte : (front rest : List ℕ) → get_or (front ++ (form i ++ rest)) (length front) 0 ≡ 16 * i.code + i.function
  unfolding form
  first_byte front rest = get_or-append_seam front (16 * i.code + i.function) _ 0

  -- the bytes from an address on are the instruction's own
  own : (front rest : List ℕ) → own_bytes (lent (front ++ (form i ++ rest))) (length front) ≡ form i
  unfolding own_bytes size_at seen_to code_end
  own front rest =
      let q : (16 * i.code + i.function) / 16 ≡ i.code = omega (arith, function_small i valid) in
      let s : size_at (lent (front ++ (form i ++ rest))) (length front) ≡ (row_of i.code).size = ap (λ (x : ℕ). (row_of (x / 16)).size) (first_byte front rest)
      ∙ ap (λ (c : ℕ). (row_of c).size) q in
      ap (λ (n : ℕ). take n (drop (length front) (take (length (front ++ (form i ++ rest))) (front ++ (form i ++ rest))))) s
      ∙ (ap (λ (b : List ℕ). take (row_of i.code).size (drop (length front) b)) (take-length (front ++ (form i ++ rest)))
      ∙ ap (take (row_of i.code).size) (drop-append_seam front (form i ++ rest)) ∙ take_at (form i) rest _ (form_length i))

  -- wherever the bytes stand
  pub fetched_back : (front rest : List ℕ) → fetch (lent (front ++ (form i ++ rest))) (length front) ≡ instruction_at (length front) (used i)
  unfolding fetch instruction_at taken used
  fetched_back front rest =
      let row = row_of i.code in
      let e : fetch (lent (front ++ (form i ++ rest))) (length front) ≡ taken (length front) row.size (used i) = ap (parsed (length front)) (own front rest)
      ∙ (parsed_is (length front) (form i) ∙ cc (form_length i, read_back)) in
      e
      ∙ cc (
        ne_eqb row.size 0 (λ z. omega (arith, some_bytes i.code)),
        in_table i valid,
        le-ltb row.size row.size (omega arith),
        well_named row.byte i.ra i.rb (a_small i valid) (b_small i valid),
      )

-- ONE INSTRUCTION
pub one_instruction : (i j : Fields) → encode_refused i ≡ false → encode_refused j ≡ false → i.constant < 2 ^ 64 → j.constant < 2 ^ 64
    → form i ≡ form j → used i ≡ used j
one_instruction i j vi vj wi wj e = sym (read_back i vi wi) ∙ (ap fields_in e ∙ read_back j vj wj)

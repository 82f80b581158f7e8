-- "Lines ascend, without overlap, and fit in the lent memory; unnamed bytes become 0" (#103), of every listing and its image. Assumes nothing.
use Rattle.std.specs.Prelude.{◌≡◌, refl, ◌⊎◌, ℕ, zero, suc, ◌+◌, ◌≤◌, ◌<◌, length, get_or, set, replicate}
use Rattle.std.proofs.Common.{ap, ◌∙◌, inl, inr, arith, length-set, get_or-set_same, get_or-set_other}
use mathlib.Core.List.Memᴰ
use mathlib.Core.List.{List, [], ◌∷◌, Memᴰ}
use Rattle.std.proofs.lemmas.List.{length-replicate}
use Rattle.std.proofs.lemmas.List.Edits.{sets}
use Rattle.std.proofs.Math.Seq.{length-sets}
use Rattle.listing.specs.Grammar.{Record, address_of, bytes_of, end_of, laid, image_of, Listing, end, more}

-- THE LINES
-- each stands from the first free address on, and ends within memory
pub fits : {size free : ℕ} {rs : List Record} {s : Record} → Listing size free rs → Memᴰ s rs → (free ≤ address_of s) × (end_of s ≤ size)
unfolding end_of
fits end m = absurd (Memᴰ.not-nil m)
fits {size} {free} {s = s} (more {r = r} {rs = rs} w above within rest) m = go (Memᴰ.cases_cons m) (λ n. fits rest n)
  where
    go : (s ≡ r) ⊎ Memᴰ s rs → (Memᴰ s rs → (end_of r ≤ address_of s) × (end_of s ≤ size)) → (free ≤ address_of s) × (end_of s ≤ size)
    go (inl e) ih = rw e (above, within)
    go (inr n) ih =
        let p = ih n in
        (omega (arith, p.0), p.1)

-- a line ends before every later one begins
pub apart : {size free : ℕ} {r s : Record} {rs : List Record} → Listing size free (r ∷ rs) → Memᴰ s rs → end_of r ≤ address_of s
apart (more w above within rest) m = (fits rest m).0

-- THE IMAGE
sets_outside : (vs m : List ℕ) (i j : ℕ) → ((k : ℕ) → k < length vs → j ≡ i + k → ⊥) → get_or (sets m i vs) j 0 ≡ get_or m j 0
sets_outside [] m i j h = refl
sets_outside (v ∷ vs) m i j h =
    sets_outside vs (set m i v) (suc i) j (λ k l e. h (suc k) (omega arith) (omega arith))
    ∙ get_or-set_other m i j v 0 (λ e. h 0 (omega arith) (omega arith))

sets_inside : (vs m : List ℕ) (i k : ℕ) → k < length vs → i + length vs ≤ length m → get_or (sets m i vs) (i + k) 0 ≡ get_or vs k 0
sets_inside [] m i k h l = absurd (omega arith)
sets_inside (v ∷ vs) m i zero h l =
    let e : i + 0 ≡ i = omega arith in
    rw e (sets_outside vs (set m i v) (suc i) i (λ k q p. omega arith) ∙ get_or-set_same m i v 0 (omega arith))
sets_inside (v ∷ vs) m i (suc k) h l =
    let e : i + suc k ≡ suc i + k = omega arith in
    rw e (sets_inside vs (set m i v) (suc i) k (omega arith) (omega (arith, length-set m i v)))

-- no record names the address
abbrev pub Unnamed : List Record → ℕ → Type 0
Unnamed rs a = (s : Record) → Memᴰ s rs → (k : ℕ) → k < length (bytes_of s) → a ≡ address_of s + k → ⊥

stays : (rs : List Record) (m : List ℕ) (a : ℕ) → Unnamed rs a → get_or (laid rs m) a 0 ≡ get_or m a 0
unfolding laid
stays [] m a h = refl
stays (r ∷ rs) m a h =
    stays rs (sets m (address_of r) (bytes_of r)) a (λ s n. h s (Memᴰ.tail n)) ∙ sets_outside (bytes_of r) m (address_of r) a (h r (Memᴰ.head refl))

lies : {size free : ℕ} {rs : List Record} {s : Record} → Listing size free rs → Memᴰ s rs → (m : List ℕ) → length m ≡ size
    → (k : ℕ) → k < length (bytes_of s) → get_or (laid rs m) (address_of s + k) 0 ≡ get_or (bytes_of s) k 0
unfolding laid end_of
lies end n m l k h = absurd (Memᴰ.not-nil n)
lies {size} {s = s} (more {r = r} {rs = rs} w above within rest) n m l k h = go (Memᴰ.cases_cons n) (λ q. lies rest q (sets m (address_of r)
    (bytes_of r)) (length-sets m (address_of r) (bytes_of r) ∙ l) k h)
  where
    u : List ℕ
    u = sets m (address_of r) (bytes_of r)

    later : s ≡ r → Unnamed rs (address_of s + k)
    later e t q i g p = omega (arith, (fits rest q).0, ap address_of e, ap (λ (x : Record). length (bytes_of x)) e)

    go : (s ≡ r) ⊎ Memᴰ s rs → (Memᴰ s rs → get_or (laid rs u) (address_of s + k) 0 ≡ get_or (bytes_of s) k 0)
        → get_or (laid rs u) (address_of s + k) 0 ≡ get_or (bytes_of s) k 0
    go (inl e) ih =
        stays rs u (address_of s + k) (later e)
        ∙ rw e (sets_inside (bytes_of r) m (address_of r) k (omega (arith, ap (λ (x : Record). length (bytes_of x)) e)) (omega arith))
    go (inr q) ih = ih q

-- each record's bytes stand from its address on
pub named : {size : ℕ} {rs : List Record} {s : Record} → Listing size 0 rs → Memᴰ s rs → (k : ℕ) → k < length (bytes_of s)
    → get_or (image_of size rs) (address_of s + k) 0 ≡ get_or (bytes_of s) k 0
unfolding image_of
named {size} g n k h = lies g n (replicate size 0) (length-replicate size 0) k h

zeros : (n i : ℕ) → ◌≡◌ {A = ℕ} (get_or (replicate n 0) i 0) 0
zeros zero i = refl
zeros (suc n) zero = refl
zeros (suc n) (suc i) = zeros n i

-- "unnamed bytes become 0"
pub unnamed : (size : ℕ) (rs : List Record) (a : ℕ) → Unnamed rs a → get_or (image_of size rs) a 0 ≡ 0
unfolding image_of
unnamed size rs a h = stays rs (replicate size 0) a h ∙ zeros size a

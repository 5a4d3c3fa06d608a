-- The cells of one matrix as they are read: which cell comes at which turn, and that each bit is read once. Assumes nothing.
use Rattle.std.specs.Prelude.{◌≡◌, ◌≢◌, ℕ, zero, suc, ◌+◌, ◌-◌, ◌*◌, ◌/◌, ◌%◌, ◌<◌, ◌≤◌, Bool, true, cond, ◌&&◌, List, [], ◌∷◌, map, length, take, filter, nat_eq, nat_le, nat_lt, AllPairs, slice_index, slice_index_or, refl}
use Rattle.std.proofs.Common.{sym, ◌∙◌, ⊎_elim, zero-add, arith}
use Rattle.std.proofs.Math.Path.{ap}
use Rattle.std.specs.List.{range_with_len}
use Rattle.std.proofs.lemmas.Grind.{get_or_default_zero}
use Rattle.std.proofs.lemmas.List.{get_or-map, length-map}
use Rattle.std.proofs.lemmas.List.Elements.{All-from_get_or, All-filter, filter_passes}
use Rattle.std.proofs.lemmas.List.FromFn.{length-map-range_with_len, get_or-map-range_with_len}
use Rattle.std.proofs.lemmas.List.Kept.{AllPairs-filter}
use Rattle.std.proofs.lemmas.Nat.{mul-add-lt, div_below, mod_below, div-add-mod'}
use Rattle.std.proofs.lemmas.Bool.{cases_lt, eqb-true, ltb-true, le-leb, leb-true, and_parts}
use Rattle.interleaver.specs.Interleaving.{order, rows, unused, used, cell, column, reading, places}
use Rattle.interleaver.specs.Kept.{kept_at, head_kept, kept_of_each, kept_counting}
use Rattle.interleaver.specs.Joins.{length-joined, slice_index-joined}

-- a test that is computed at each number below n
abbrev checks : (ℕ → Bool) → ℕ → Bool
checks f zero = true
checks f (suc n) = f n && checks f n

checked : (f : ℕ → Bool) (n : ℕ) → checks f n ≡ true → (k : ℕ) → k < n → f k ≡ true
checked f zero e k h = absurd (omega arith)
checked f (suc n) e k h =
    let b = and_parts (f n) (checks f n) e in
    ⊎_elim (checked f n b.1 k) (λ g. let i : k ≡ n = omega arith in ap f i ∙ b.0) (cases_lt k n)

-- the turn at which each column is read
abbrev turn : List ℕ
turn =
    16 ∷ 0 ∷ 24 ∷ 8 ∷ 20 ∷ 4 ∷ 28 ∷ 12 ∷ 18 ∷ 2 ∷ 26 ∷ 10 ∷ 22 ∷ 6 ∷ 30 ∷ 14
    ∷ 17 ∷ 1 ∷ 25 ∷ 9 ∷ 21 ∷ 5 ∷ 29 ∷ 13 ∷ 19 ∷ 3 ∷ 27 ∷ 11 ∷ 23 ∷ 7 ∷ 31 ∷ 15 ∷ []

pub order_below : (c : ℕ) → c < 32 → slice_index order c < 32
order_below c h = ltb-true (slice_index order c) 32 (checked (λ c. nat_lt (slice_index order c) 32) 32 refl c h)

turn_below : (c : ℕ) → c < 32 → slice_index turn c < 32
turn_below c h = ltb-true (slice_index turn c) 32 (checked (λ c. nat_lt (slice_index turn c) 32) 32 refl c h)

turn-order : (c : ℕ) → c < 32 → slice_index turn (slice_index order c) ≡ c
turn-order c h = eqb-true (slice_index turn (slice_index order c)) c (checked (λ c. nat_eq (slice_index turn (slice_index order c)) c) 32 refl c h)

order-turn : (c : ℕ) → c < 32 → slice_index order (slice_index turn c) ≡ c
order-turn c h = eqb-true (slice_index order (slice_index turn c)) c (checked (λ c. nat_eq (slice_index order (slice_index turn c)) c) 32 refl c h)

-- of the columns, all but the first u begin with a used cell
used_columns : (u : ℕ) → u < 32 → length (filter (nat_le u) order) ≡ 32 - u
used_columns u h =
    eqb-true (length (filter (nat_le u) order)) (32 - u)
    (checked (λ u. nat_eq (length (filter (nat_le u) order)) (32 - u)) 32 refl u h)

module _ (d : ℕ) where
  length-column : (c : ℕ) → length (column d c) ≡ rows d
  length-column c = length-map-range_with_len (cell c) 0 (rows d)

  pub length-reading : length (reading d) ≡ 32 * rows d
  unfolding reading
  length-reading = length-joined (column d) (rows d) length-column order

  -- the cell that is read at turn c, row r
  pub slice_index-reading : (c r : ℕ) → c < 32 → r < rows d → slice_index (reading d) (c * rows d + r) ≡ cell (slice_index order c) r
  unfolding reading
  slice_index-reading c r h g =
      slice_index-joined (column d) (rows d) length-column order c r h g
      ∙ get_or-map-range_with_len (cell (slice_index order c)) 0 (rows d) r r 0 g (omega arith)

  -- how many cells are read before a cell
  abbrev before : ℕ → ℕ
  before q = slice_index turn (q % 32) * rows d + q / 32

  before-below : (q : ℕ) → q < 32 * rows d → before q < 32 * rows d
  before-below q h =
      omega (arith, mul-add-lt (slice_index turn (q % 32)) (rows d) (q / 32) 32 (turn_below (q % 32) (omega arith)) (omega arith))

  reading-before : (q : ℕ) → q < 32 * rows d → slice_index (reading d) (before q) ≡ q
  reading-before q h =
      let e = order-turn (q % 32) (omega arith) in
      slice_index-reading (slice_index turn (q % 32)) (q / 32) (turn_below (q % 32) (omega arith)) (omega arith) ∙ omega arith

  reading_is : (t : ℕ) → t < 32 * rows d
      → (t / rows d < 32) × (t % rows d < rows d) × (slice_index (reading d) t ≡ cell (slice_index order (t / rows d)) (t % rows d))
  reading_is t h =
      let some : 0 < rows d = omega arith in
      let a = div_below t (rows d) 32 some h in
      let b = mod_below t (rows d) some in
      (a, b, ap (λ i. slice_index (reading d) i) (sym (div-add-mod' t (rows d))) ∙ slice_index-reading (t / rows d) (t % rows d) a b)

  before-reading : (t : ℕ) → t < 32 * rows d → before (slice_index (reading d) t) ≡ t
  before-reading t h =
      let x = slice_index_or (reading d) t 0 in
      let is = reading_is t h in
      let o = order_below (t / rows d) is.0 in
      let m : x % 32 ≡ slice_index_or order (t / rows d) 0 = omega arith in
      let v : x / 32 ≡ t % rows d = omega arith in
      ap (λ m. slice_index turn m * rows d + x / 32) m
      ∙ ap (λ c. c * rows d + x / 32) (turn-order (t / rows d) is.0)
      ∙ ap (λ r. t / rows d * rows d + r) v ∙ div-add-mod' t (rows d)

  reading-below : (t : ℕ) → t < 32 * rows d → slice_index (reading d) t < 32 * rows d
  reading-below t h =
      let is = reading_is t h in
      let o = order_below (t / rows d) is.0 in
      omega arith

-- as many cells are used as there are bits
column_kept : (d m c : ℕ) → rows d ≡ suc m → length (filter (used d) (column d c)) ≡ cond (used d c) 1 0 + m
column_kept d m c e =
    let f : ℕ → ℕ = cell c in
    let ks = filter (used d) (map f (range_with_len 1 m)) in
    let k : length ks ≡ m = kept_counting (used d) f 1 m (λ r h. le-leb (unused d) (f r) (omega arith)) in
    ap (λ n. length (filter (used d) (map f (range_with_len 0 n)))) e
    ∙ head_kept (used d (f 0)) (f 0) ks
    ∙ ap (λ n. cond (used d (f 0)) 1 0 + n) k ∙ ap (λ q. cond (used d q) 1 0 + m) (zero-add c)

length_kept : (d : ℕ) → length (filter (used d) (reading d)) ≡ d
unfolding reading
length_kept zero = refl
length_kept (suc n) =
    let d = suc n in
    let m = rows d - 1 in
    let e : rows d ≡ suc m = omega arith in
    let u = used_columns (unused d) (omega arith) in
    kept_of_each (used d) (used d) (column d) m (λ c. column_kept d m c e) order ∙ ap (λ v. v + 32 * m) u ∙ omega arith

module _ (d : ℕ) where
  pub length-places : length (places d) ≡ d
  unfolding places
  length-places = length-map (filter (used d) (reading d)) (λ q. q - unused d) ∙ length_kept d

  -- the cell in which bit k as they are read stands
  abbrev cell_of : ℕ → ℕ
  cell_of k = slice_index (filter (used d) (reading d)) k

  places-at : (k : ℕ) → k < d → slice_index (places d) k ≡ cell_of k - unused d
  unfolding places
  places-at k h = get_or-map (λ q. q - unused d) (filter (used d) (reading d)) k 0 0 (omega (arith, length_kept d))

  cell_of_within : (k : ℕ) → k < d → (unused d ≤ cell_of k) × (cell_of k < 32 * rows d)
  cell_of_within k h =
      let i : k < length (filter (used d) (reading d)) = omega (arith, length_kept d) in
      let below = All-from_get_or (λ q. q < 32 * rows d) (reading d) 0 (λ t g. reading-below d t (omega (arith, length-reading d))) in (
        leb-true (unused d) (cell_of k) (filter_passes (used d) (reading d) k 0 i),
        All-filter (used d) (λ q. q < 32 * rows d) (reading d) below k 0 i,
      )

  pub places-within : (k : ℕ) → k < d → slice_index (places d) k < d
  places-within k h = let q = cell_of_within k h in omega (arith, q.0, q.1, places-at k h)

  pub places-every : (p : ℕ) → p < d → (k : ℕ) × (k < d) × (slice_index (places d) k ≡ p)
  places-every p h =
      let q = p + unused d in
      let t = before d q in
      let e = reading-before d q (omega arith) in
      let i : t < length (reading d) = omega (arith, length-reading d, before-below d q (omega arith)) in
      let a = kept_at (used d) (reading d) t i (le-leb (unused d) (slice_index (reading d) t) (omega arith)) in
      let b : a.0 < d = omega (arith, a.1, length_kept d) in
      (a.0, b, omega (arith, places-at a.0 b, a.2, e))

  reading_apart : AllPairs (λ x y. x ≢ y) (reading d)
  reading_apart i j e l h same =
      let long = length-reading d in
      let is : (t : ℕ) → t < length (reading d) → before d (slice_index_or (reading d) t e) ≡ t =
      λ t g. ap (before d) (get_or_default_zero (reading d) t e g) ∙ before-reading d t (omega arith) in
      let turns : i ≡ j = sym (is i (omega arith)) ∙ ap (before d) same ∙ is j h in
      omega arith

  pub places_once : (j k : ℕ) → j < d → k < d → slice_index (places d) j ≡ slice_index (places d) k → j ≡ k
  places_once j k g h e =
      let n = length_kept d in
      let q = cell_of_within j g in
      let r = cell_of_within k h in
      let apart = AllPairs-filter (λ x y. x ≢ y) (used d) (reading d) reading_apart in
      let same : cell_of j ≡ cell_of k = omega (arith, q.0, r.0, places-at j g, places-at k h) in
      ⊎_elim (λ l. absurd (apart j k 0 l (omega arith) same))
      (λ l. ⊎_elim (λ l. absurd (apart k j 0 l (omega arith) (sym same))) (λ m. omega arith) (cases_lt k j)) (cases_lt j k)

-- of 40 bits, the first five as they are read
pub first_of_forty : take 5 (places 40) ≡ 9 ∷ 25 ∷ 17 ∷ 1 ∷ 33 ∷ []
unfolding places reading
first_of_forty = refl

-- The reference and the data elements of a grid of 168 points, at every identity.
use Rattle.std.proofs.Common.{◌≡◌, ℕ, zero, suc, ◌+◌, ◌/◌, ◌%◌, ◌<◌, Bool, true, false, cond, ◌&&◌, ◌||◌, eqb, sym, refl, ap₂, subst₂, arith}
use mathlib.Core.Path.{fun_ext}
use Rattle.grid.specs.declared.purpose.Purpose.{Purpose}
use Rattle.grid.specs.declared.purpose.Purpose.TheVariants.{Reference, Data}
use Rattle.grid.specs.Walk.{count}
use Rattle.grid.specs.Purposes.{comb, same, among}

-- among, by where the combs of its symbols start
abbrev at_starts : Purpose → ℕ → ℕ → ℕ → Bool
at_starts what a b p =
    same what (cond (((eqb (p / 12) 5 || eqb (p / 12) 12) && comb a (p % 12)) || ((eqb (p / 12) 6 || eqb (p / 12) 13) && comb b (p % 12))) Reference Data)

-- the remainder of an identity stands for it
pub among_remainder : (what : Purpose) (n : ℕ) → among what (n % 6) ≡ among what n
unfolding among
among_remainder what n =
    let a : (0 + n % 6) % 6 ≡ (0 + n) % 6 = omega arith in
    let b : (3 + n % 6) % 6 ≡ (3 + n) % 6 = omega arith in
    fun_ext (λ place. ap₂ (λ s t. at_starts what s t place) a b)

-- what holds of the six pairs of starts holds at every identity
six : (P : ℕ → ℕ → Type 0) → P 0 3 → P 1 4 → P 2 5 → P 3 0 → P 4 1 → P 5 2 → (n : ℕ) → P ((0 + n) % 6) ((3 + n) % 6)
six P p0 p1 p2 p3 p4 p5 n = go (n % 6) refl
  where
    to : (a b : ℕ) → n % 6 ≡ a → (3 + n) % 6 ≡ b → P a b → P ((0 + n) % 6) ((3 + n) % 6)
    to a b h k p = let z : (0 + n) % 6 ≡ a = omega arith in subst₂ P (sym z) (sym k) p

    go : (k : ℕ) → n % 6 ≡ k → P ((0 + n) % 6) ((3 + n) % 6)
    go zero e = to 0 3 e (omega arith) p0
    go (suc zero) e = to 1 4 e (omega arith) p1
    go (suc (suc zero)) e = to 2 5 e (omega arith) p2
    go (suc (suc (suc zero))) e = to 3 0 e (omega arith) p3
    go (suc (suc (suc (suc zero)))) e = to 4 1 e (omega arith) p4
    go (suc (suc (suc (suc (suc zero))))) e = to 5 2 e (omega arith) p5
    go (suc (suc (suc (suc (suc (suc k)))))) e = absurd (omega arith)

pub data_elements : (identity : ℕ) → count (among Data identity) 0 168 ≡ 160
unfolding among count
data_elements identity = six (λ a b. count (at_starts Data a b) 0 168 ≡ 160) refl refl refl refl refl refl identity

pub reference_elements : (identity : ℕ) → count (among Reference identity) 0 168 ≡ 8
unfolding among count
reference_elements identity = six (λ a b. count (at_starts Reference a b) 0 168 ≡ 8) refl refl refl refl refl refl identity

-- what holds of the places of the eight reference elements, in rising place
abbrev pub Eight : (ℕ → ℕ → Type 0) → ℕ → ℕ → Type 0
Eight P s t =
    P (60 + s) 0 × P (66 + s) 1 × P (72 + t) 2 × P (78 + t) 3
    × P (144 + s) 4 × P (150 + s) 5 × P (156 + t) 6 × P (162 + t) 7

-- the n-th reference element, which carries no data
abbrev pub Numbered : ℕ → ℕ → ℕ → Type 0
Numbered identity place n = (among Reference identity place ≡ true) × (count (among Reference identity) 0 place ≡ n) × (among Data identity place ≡ false)

pub references_are : (identity : ℕ) → Eight (Numbered identity) ((0 + identity) % 6) ((3 + identity) % 6)
unfolding among count
references_are identity =
    six (λ s t. Eight (λ place n. (at_starts Reference s t place ≡ true) × (count (at_starts Reference s t) 0 place ≡ n) × (at_starts Data s t place ≡ false)) s t)
    ((refl, refl, refl), (refl, refl, refl), (refl, refl, refl), (refl, refl, refl), (refl, refl, refl), (refl, refl, refl), (refl, refl, refl), (refl, refl, refl))
    ((refl, refl, refl), (refl, refl, refl), (refl, refl, refl), (refl, refl, refl), (refl, refl, refl), (refl, refl, refl), (refl, refl, refl), (refl, refl, refl))
    ((refl, refl, refl), (refl, refl, refl), (refl, refl, refl), (refl, refl, refl), (refl, refl, refl), (refl, refl, refl), (refl, refl, refl), (refl, refl, refl))
    ((refl, refl, refl), (refl, refl, refl), (refl, refl, refl), (refl, refl, refl), (refl, refl, refl), (refl, refl, refl), (refl, refl, refl), (refl, refl, refl))
    ((refl, refl, refl), (refl, refl, refl), (refl, refl, refl), (refl, refl, refl), (refl, refl, refl), (refl, refl, refl), (refl, refl, refl), (refl, refl, refl))
    ((refl, refl, refl), (refl, refl, refl), (refl, refl, refl), (refl, refl, refl), (refl, refl, refl), (refl, refl, refl), (refl, refl, refl), (refl, refl, refl)) identity

pub eight_with : (P Q : ℕ → ℕ → Type 0) (s t : ℕ) → s < 6 → t < 6 → ((place n : ℕ) → place < 168 → n < 8 → P place n → Q place n) → Eight P s t → Eight Q s t
eight_with P Q s t h k f p = (
  f (60 + s) 0 (omega arith) (omega arith) p.0,
  f (66 + s) 1 (omega arith) (omega arith) p.1,
  f (72 + t) 2 (omega arith) (omega arith) p.2,
  f (78 + t) 3 (omega arith) (omega arith) p.3,
  f (144 + s) 4 (omega arith) (omega arith) p.4,
  f (150 + s) 5 (omega arith) (omega arith) p.5,
  f (156 + t) 6 (omega arith) (omega arith) p.6,
  f (162 + t) 7 (omega arith) (omega arith) p.7,
)

-- The block that has a word is found among all blocks. Assumes nothing.
use Rattle.std.proofs.Common.{◌≡◌, ℕ, zero, suc, ◌^◌, ◌<◌, Bool, true, false, cond, ltb, List, [], ◌∷◌, map, Some, None, Option, refl, ap, ◌∙◌, ap₂, arith}
use Rattle.std.specs.List.{find}
use Rattle.std.specs.Option.{option_map, option_or}
use Rattle.std.specs.Str.{bytes_eq}
use Rattle.std.proofs.lemmas.Bool.{and_parts, and_from, ltb-true, lt-ltb, false_from_ne_true}
use Rattle.std.proofs.lemmas.List.Folds.{find-append}
use Rattle.std.proofs.lemmas.Slice.Eq.{bytes_eq-Decides}
use Rattle.stage.specs.declared.setting.Setting.{Setting}
use Rattle.stage.specs.Bits.{binary, Bits}
use Rattle.stage.specs.Meaning.{Meaning, Lawful, word}
use Rattle.stage.specs.Calls.{TheBlock, NoBlockHas}
use Rattle.stage.proofs.Framed.{one_block}
use Rattle.air.specs.Terminals.{blocks, block_of}

abbrev on : ℕ → List ℕ → List ℕ
on x b = x ∷ b

found_map : (p : List ℕ → Bool) (f : List ℕ → List ℕ) (xs : List (List ℕ)) → find p (map f xs) ≡ option_map f (find (λ b. p (f b)) xs)
found_map p f [] = refl
found_map p f (x ∷ xs) =
    elim (p (f x)) as (λ b. cond b (Some (f x)) (find p (map f xs)) ≡ option_map f (cond b (Some x) (find (λ b. p (f b)) xs)))
    [ true ↦ refl | false ↦ found_map p f xs ]

halves : (p : List ℕ → Bool) (n : ℕ) (u v : Option (List ℕ)) → find (λ b. p (on 0 b)) (blocks n) ≡ u → find (λ b. p (on 1 b)) (blocks n) ≡ v
    → find p (blocks (suc n)) ≡ option_or (option_map (on 0) u) (option_map (on 1) v)
unfolding blocks
halves p n u v e f =
    find-append p (map (on 0) (blocks n)) (map (on 1) (blocks n))
    ∙ ap₂ option_or (found_map p (on 0) (blocks n) ∙ ap (option_map (on 0)) e) (found_map p (on 1) (blocks n) ∙ ap (option_map (on 1)) f)

bits_more : (n x : ℕ) (b : List ℕ) → x < 2 → Bits n b → Bits (suc n) (x ∷ b)
bits_more n x b h p = (ap suc p.0, and_from (ltb x 2) (binary b) (lt-ltb x 2 h) p.1)

none_there : (n : ℕ) (p : List ℕ → Bool) → ((c : List ℕ) → Bits n c → p c ≡ false) → find p (blocks n) ≡ None
unfolding blocks
none_there zero p h = rw (h [] (refl, refl))
none_there (suc n) p h =
    halves p n None None (none_there n (λ b. p (on 0 b)) (λ c k. h (0 ∷ c) (bits_more n 0 c (omega arith) k)))
    (none_there n (λ b. p (on 1 b)) (λ c k. h (1 ∷ c) (bits_more n 1 c (omega arith) k)))

only_one : (n : ℕ) (p : List ℕ → Bool) (b : List ℕ) → Bits n b → p b ≡ true → ((c : List ℕ) → Bits n c → p c ≡ true → c ≡ b)
    → find p (blocks n) ≡ Some b
unfolding blocks
only_one zero p [] bits t only = rw t
only_one zero p (x ∷ b) bits t only = let z : ⊥ = omega (arith, bits.0) in absurd z
only_one (suc n) p [] bits t only = let z : ⊥ = omega (arith, bits.0) in absurd z
only_one (suc n) p (zero ∷ b) bits t only =
    let rest : Bits n b = (omega (arith, bits.0), bits.1) in
    halves p n (Some b) _ (only_one n (λ c. p (on 0 c)) b rest t (λ c k e. let q = only (0 ∷ c) (bits_more n 0 c (omega arith) k) e in grind arith)) refl
only_one (suc n) p (suc zero ∷ b) bits t only =
    let rest : Bits n b = (omega (arith, bits.0), bits.1) in
    halves p n None (Some b)
    (none_there n (λ c. p (on 0 c)) (λ c k. false_from_ne_true (p (0 ∷ c)) (λ e. let q = only (0 ∷ c) (bits_more n 0 c (omega arith) k) e in grind arith)))
    (only_one n (λ c. p (on 1 c)) b rest t (λ c k e. let q = only (1 ∷ c) (bits_more n 1 c (omega arith) k) e in grind arith))
only_one (suc n) p (suc (suc x) ∷ b) bits t only =
    let z : ⊥ = omega (arith, ltb-true (suc (suc x)) 2 (and_parts (ltb (suc (suc x)) 2) (binary b) bits.1).0) in absurd z

module _ (m : Meaning) (n : ℕ) (s : Setting) (w : List ℕ) where
  -- the one block that has a word
  pub found_one : (b : List ℕ) → TheBlock m n s w b → block_of m n s.output s.seed w ≡ Some b
  unfolding block_of
  found_one b h =
      only_one n (λ c. bytes_eq (word m n s.output s.seed c) w) b h.has.bits ((bytes_eq-Decides (word m n s.output s.seed b) w).1 h.has.is)
      (λ c k t. h.only c (record { bits = k; is = (bytes_eq-Decides (word m n s.output s.seed c) w).0 t }))

  pub found_none : NoBlockHas m n s w → block_of m n s.output s.seed w ≡ None
  unfolding block_of
  found_none none =
      none_there n (λ c. bytes_eq (word m n s.output s.seed c) w)
      (λ c k. false_from_ne_true (bytes_eq (word m n s.output s.seed c) w)
      (λ t. none c (record { bits = k; is = (bytes_eq-Decides (word m n s.output s.seed c) w).0 t })))

-- where the mark is covering, the block of its own word
pub found_own : {m : Meaning} (law : Lawful m) (n e seed : ℕ) → 0 < m.size n e → seed < 2 ^ 31 → m.covers n e ≡ true
    → (b : List ℕ) → Bits n b → block_of m n e seed (word m n e seed b) ≡ Some b
found_own {m} law n e seed some seeded cov b h =
    found_one m n (record { output = e; seed = seed }) (word m n e seed b) b
    (one_block law n (record { output = e; seed = seed }) some seeded cov (word m n e seed b) b (record { bits = h; is = refl }))

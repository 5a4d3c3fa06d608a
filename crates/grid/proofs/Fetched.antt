-- The bits of the chosen elements, read pair by pair over the front of a buffer.
use Rattle.std.proofs.Common.{◌≡◌, ℕ, ◌+◌, ◌<◌, ◌≤◌, Bool, List, [], ◌∷◌, length, get_or, set, Some, None, Option, sym, refl, ap, ◌∙◌, arith, length-set}
use Rattle.std.specs.Option.{option_map}
use Rattle.point.specs.Kinds.{Kind}
use Rattle.grid.specs.Pairs.{bit, joined, bits_of}
use Rattle.grid.proofs.Chosen.{Below, standing, standing_first}
use Rattle.grid.proofs.Overwrites.{over_from, over_more, over_all, over_done}

mapped_pair : (f h : List ℕ → List ℕ) (a b : Bool) (o : Option (List ℕ)) → ((bs : List ℕ) → h (bit a ∷ bit b ∷ bs) ≡ f bs) → option_map h (joined (Some (a, b)) o) ≡ option_map f o
mapped_pair f h a b None e = refl
mapped_pair f h a b (Some bs) e = ap Some (e bs)

two_more : (n a b : ℕ) (ys bs : List ℕ) → n + 1 < length ys → over_from n ys (a ∷ b ∷ bs) ≡ over_from (n + 2) (set (set ys n a) (n + 1) b) bs
two_more n a b ys bs h =
    over_more n a ys (b ∷ bs) (omega arith)
    ∙ over_more (n + 1) b (set ys n a) bs (simp length-set h)
    ∙ ap (λ m. over_from m (set (set ys n a) (n + 1) b) bs) (omega arith)

-- one turn: x stands on the place p, which is the next
module _ {X : Type 0} (xs : List X) (p : ℕ) (ps qs : List ℕ) (e : qs ≡ p ∷ ps) (x : X) (h : Below (length xs) qs) (is : x ≡ get_or xs p x) where
  -- q is its pair, the n bits before it stand in ys, and the whole comes to zs
  module _ (K : Kind X) (q : Option (Bool × Bool)) (pair : q ≡ K.pair x) (n : ℕ) (ys : List ℕ) (zs : Option (List ℕ))
      (inv : option_map (over_from n ys) (bits_of K (standing xs qs)) ≡ zs) where
    next_bits : bits_of K (standing xs qs) ≡ joined q (bits_of K (standing xs ps))
    unfolding bits_of
    next_bits = ap (bits_of K) (standing_first xs p ps qs x e h is) ∙ ap (λ o. joined o (bits_of K (standing xs ps))) (sym pair)

    -- its bits are read, and f is what the buffer comes to
    step : (a b : Bool) (f : List ℕ → List ℕ) → q ≡ Some (a, b) → ((bs : List ℕ) → over_from n ys (bit a ∷ bit b ∷ bs) ≡ f bs) → option_map f (bits_of K (standing xs ps)) ≡ zs
    step a b f is g =
        sym (ap (option_map (over_from n ys)) (next_bits ∙ ap (λ o. joined o (bits_of K (standing xs ps))) is) ∙ mapped_pair f (over_from n ys) a b (bits_of K (standing xs ps)) g) ∙ inv

    pub read_more : (a b : Bool) → q ≡ Some (a, b) → n + 1 < length ys → option_map (over_from (n + 2) (set (set ys n (bit a)) (n + 1) (bit b))) (bits_of K (standing xs ps)) ≡ zs
    read_more a b f room = step a b _ f (λ bs. two_more n (bit a) (bit b) ys bs room)

    -- the buffer is full
    pub read_full : (a b : Bool) → q ≡ Some (a, b) → length ys ≤ n → option_map (over_from n ys) (bits_of K (standing xs ps)) ≡ zs
    read_full a b f full = step a b _ f (λ bs. over_all n ys (bit a ∷ bit b ∷ bs) full ∙ sym (over_all n ys bs full))

    -- it is no pair
    pub read_none : q ≡ None → None ≡ zs
    read_none f = sym (ap (option_map (over_from n ys)) (next_bits ∙ ap (λ o. joined o (bits_of K (standing xs ps))) f)) ∙ inv

-- no element is left
pub read_end : {X : Type 0} (K : Kind X) (xs : List X) (qs : List ℕ) (n : ℕ) (ys : List ℕ) (zs : Option (List ℕ)) → qs ≡ [] → option_map (over_from n ys) (bits_of K (standing xs qs)) ≡ zs → Some ys ≡ zs
unfolding bits_of
read_end K xs qs n ys zs e inv = ap Some (sym (over_done n ys)) ∙ sym (ap (λ us. option_map (over_from n ys) (bits_of K (standing xs us))) e) ∙ inv

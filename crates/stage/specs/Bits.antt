-- Lists of bits. A bit is the number 0 or 1. Assumes nothing.
use Rattle.std.specs.Prelude.{◌≡◌, ℕ, ◌-◌, Bool, true, List, [], ◌∷◌, ◌++◌, length, replicate, bit_xor, nat_lt}
use Rattle.std.specs.List.{list_all}

-- whether each element is 0 or 1
abbrev pub binary : List ℕ → Bool
binary xs = list_all (λ x. nat_lt x 2) xs

-- b is a list of n bits
abbrev pub Bits : ℕ → List ℕ → Type 0
Bits n b = (length b ≡ n) × (binary b ≡ true)

-- the exclusive-or, place by place; a list that ends early counts as zeros from there on
abbrev pub xor : List ℕ → List ℕ → List ℕ
xor [] ys = ys
xor (x ∷ xs) [] = x ∷ xs
xor (x ∷ xs) (y ∷ ys) = bit_xor x y ∷ xor xs ys

abbrev pub zeros : ℕ → List ℕ
zeros n = replicate n 0

-- a buffer of that size which begins with b and is 0 past it
abbrev pub padded : List ℕ → ℕ → List ℕ
padded b size = b ++ zeros (size - length b)

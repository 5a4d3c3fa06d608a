-- Buffers that begin with a list and are 0 past it. Assumes nothing.
use Rattle.std.proofs.Common.{◌≡◌, ℕ, ◌-◌, ◌≤◌, List, ◌++◌, length, take, drop, ◌∙◌, ap₂, arith}
use Rattle.std.proofs.lemmas.List.{length-drop, length-append, length-replicate, take_at}
use Rattle.stage.specs.Bits.{zeros, padded}

pub length-padded : (b : List ℕ) (size : ℕ) → length b ≤ size → length (padded b size) ≡ size
length-padded b size h = length-append b (zeros (size - length b)) ∙ (let z = length-replicate {A = ℕ} (size - length b) 0 in omega arith)

pub take-padded : (b : List ℕ) (n size : ℕ) → length b ≡ n → take n (padded b size) ≡ b
take-padded b n size h = take_at b (zeros (size - length b)) n h

-- a new front, and zeros past it; the code writes the part's end as j
pub front_cleared : (work part w : List ℕ) (k j : ℕ) → j ≡ k → length part ≡ k → k ≤ length work
    → w ≡ padded (take k (part ++ drop j work)) (length (part ++ drop j work)) → w ≡ padded part (length work)
front_cleared work part w k j same long room e =
    let l : length (part ++ drop j work) ≡ length work = (let a = length-append part (drop j work) in let b = length-drop j work in omega arith) in
    e ∙ ap₂ padded (take_at part (drop j work) k long) l

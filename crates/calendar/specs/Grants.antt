-- What a grant may name, and the numbers of the refusals. Assumes nothing.
use Rattle.std.specs.Prelude.{◌≡◌, ℕ, ◌*◌, ◌%◌, Bool, true, false, cond, not, ◌&&◌, ◌||◌, List, [], ◌∷◌, Some, None, Option, ◌==◌, nat_le}
use Rattle.calendar.specs.declared.fault.GrantFault.{GrantFault}
use Rattle.calendar.specs.declared.fault.GrantFault.TheVariants.{Rnti, SubframeCount, Repetitions, BlockLength}
use Rattle.calendar.specs.declared.grant.Grant.{Grant}

abbrev pub fault_number : GrantFault → ℕ
fault_number Rnti = 10
fault_number SubframeCount = 11
fault_number Repetitions = 12
fault_number BlockLength = 13

abbrev pub member : ℕ → List ℕ → Bool
member n [] = false
member n (x ∷ xs) = n == x || member n xs

-- the subframe counts, N, that a grant may name
abbrev pub counts : List ℕ
counts = 1 ∷ 2 ∷ 3 ∷ 4 ∷ 5 ∷ 6 ∷ 8 ∷ 10 ∷ []

-- the repetitions, M, that a grant may name
abbrev pub repetition_counts : List ℕ
repetition_counts =
    1 ∷ 2 ∷ 4 ∷ 8 ∷ 16 ∷ 32 ∷ 64 ∷ 128 ∷ 192 ∷ 256 ∷ 384 ∷ 512 ∷ 768 ∷ 1024 ∷ 1536 ∷ 2048 ∷ []

-- from 1 to 65,535
abbrev pub rnti_allowed : Grant → Bool
rnti_allowed g = nat_le 1 g.rnti && nat_le g.rnti 65535

abbrev pub count_allowed : Grant → Bool
count_allowed g = member g.subframes counts

abbrev pub repetitions_allowed : Grant → Bool
repetitions_allowed g = member g.repetitions repetition_counts

-- a multiple of 8 from 16 to 2,536
abbrev pub length_allowed : Grant → Bool
length_allowed g = nat_le 16 g.length && (nat_le g.length 2536 && g.length % 8 == 0)

-- a grant that all tests let pass
pub record Allowed (g : Grant) : Type 0 where
  pub called : rnti_allowed g ≡ true
  pub counted : count_allowed g ≡ true
  pub repeated : repetitions_allowed g ≡ true
  pub sized : length_allowed g ≡ true

-- what turns a grant down: the first of its tests, by rising number, that fails
abbrev pub grant_refusal : Grant → Option GrantFault
grant_refusal g =
    cond (not (rnti_allowed g)) (Some Rnti)
    (cond (not (count_allowed g)) (Some SubframeCount)
    (cond (not (repetitions_allowed g)) (Some Repetitions)
    (cond (not (length_allowed g)) (Some BlockLength) None)))

-- the bits of a word that go out in one subframe
abbrev pub part_bits : ℕ
part_bits = 320

-- the word's length, E
abbrev pub output : Grant → ℕ
output g = part_bits * g.subframes

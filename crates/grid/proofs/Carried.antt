-- What stands on a written grid: its length, its reference elements, and the bits that are read back.
use Rattle.std.proofs.Common.{◌≡◌, ℕ, zero, suc, ◌+◌, ◌*◌, ◌/◌, ◌%◌, ◌<◌, false, List, length, get_or, replicate, Some, None, Option, sym, refl, ap, ◌∙◌, mod-lt, arith}
use Rattle.std.specs.Option.{option_map}
use Rattle.std.proofs.lemmas.List.{length-replicate}
use Rattle.point.specs.Kinds.{Kind, LawfulKind}
use Rattle.grid.specs.declared.purpose.Purpose.TheVariants.{Reference, Data}
use Rattle.grid.specs.Walk.{taken, count}
use Rattle.grid.specs.Purposes.{among}
use Rattle.grid.specs.Pairs.{points, bits_of}
use Rattle.grid.specs.References.{reference_bits}
use Rattle.grid.specs.Grids.{vacant, marked, carrying, aired_bits, in_320}
use Rattle.grid.specs.Laws.{ReferencesHold, MeetsRules}
use Rattle.grid.proofs.Bits.{length-points, bits_of_points, length_bits, bits_small}
use Rattle.grid.proofs.Overwrites.{overwritten-all}
use Rattle.grid.proofs.Walks.{length-laid, length_taken, taken-laid, walk_law}
use Rattle.grid.proofs.Elements.{data_elements, reference_elements, Eight, Numbered, eight_with, references_are}

whole : (bits : List ℕ) → length bits ≡ 320 → in_320 bits ≡ bits
unfolding in_320
whole bits h = overwritten-all (replicate 320 0) bits h

both : (P : ℕ → Type 0) → P 0 → P 1 → (i : ℕ) → i < 2 → P i
both P p q zero h = p
both P p q (suc zero) h = q
both P p q (suc (suc i)) h = absurd (omega arith)

module _ {X : Type 0} (K : Kind X) where
  pub length-vacant : (n : ℕ) → length (vacant K n) ≡ n
  unfolding vacant
  length-vacant n = length-replicate n K.blank

  pub length_marked : (n identity subframe : ℕ) → length (marked K n identity subframe) ≡ n
  unfolding marked
  length_marked n identity subframe = length-laid (among Reference identity) 0 (vacant K n) (points K (reference_bits identity subframe)) ∙ length-vacant n

  pub length-carrying : (n identity subframe : ℕ) (bits : List ℕ) → length (carrying K n identity subframe bits) ≡ n
  unfolding carrying
  length-carrying n identity subframe bits = length-laid (among Data identity) 0 (marked K n identity subframe) (points K bits) ∙ length_marked n identity subframe

  -- a grid of 168 points that is read airs 320 bits
  pub length_aired : (identity : ℕ) (grid : List X) (bits : List ℕ) → length grid ≡ 168 → aired_bits K identity grid ≡ Some bits → length bits ≡ 320
  unfolding aired_bits
  length_aired identity grid bits h e =
      length_bits K (taken (among Data identity) 0 grid) bits e
      ∙ ap (λ n. 2 * n) (length_taken (among Data identity) 0 grid ∙ ap (count (among Data identity) 0) h ∙ data_elements identity)

  -- each of them 0 or 1
  pub aired_small : (identity : ℕ) (grid : List X) (bits : List ℕ) (k : ℕ) → aired_bits K identity grid ≡ Some bits → get_or bits k 0 < 2
  unfolding aired_bits
  aired_small identity grid bits k = bits_small K (taken (among Data identity) 0 grid) bits k

  -- what is read of a grid of 168 points is all that it airs
  pub aired_whole : (identity : ℕ) (grid : List X) → length grid ≡ 168 → option_map in_320 (aired_bits K identity grid) ≡ aired_bits K identity grid
  aired_whole identity grid h = go (aired_bits K identity grid) refl
    where
      go : (o : Option (List ℕ)) → aired_bits K identity grid ≡ o → option_map in_320 o ≡ o
      go None e = refl
      go (Some bits) e = ap Some (whole bits (length_aired identity grid bits h e))

  module _ (identity subframe : ℕ) where
    -- the reference elements of a grid hold the reference points, each the one of its number
    abbrev Holds : List X → Type 0
    Holds grid = Eight (λ place n. get_or grid place K.blank ≡ get_or (points K (reference_bits identity subframe)) n K.blank) ((0 + identity) % 6) ((3 + identity) % 6)

    spread : (grid : List X) → Holds grid → ReferencesHold K identity subframe grid
    unfolding points reference_bits
    spread grid h = record {
      symbol_5 = both _ h.0 h.1;
      symbol_6 = both _ h.2 h.3;
      symbol_12 = both _ h.4 h.5;
      symbol_13 = both _ h.6 h.7;
    }

    eight_points : length (points K (reference_bits identity subframe)) ≡ 8
    unfolding points reference_bits
    eight_points = refl

    -- they hold on a grid that has the marked one's elements wherever no data go
    hold : (grid : List X) → ((place : ℕ) → among Data identity place ≡ false → get_or grid place K.blank ≡ get_or (marked K 168 identity subframe) place K.blank) → ReferencesHold K identity subframe grid
    unfolding marked
    hold grid same =
        spread grid
        (eight_with (Numbered identity) _ _ _ (mod-lt (0 + identity) (omega arith)) (mod-lt (3 + identity) (omega arith))
        (λ place n h k r.
        let few : count (among Reference identity) 0 place < length (points K (reference_bits identity subframe)) = omega (arith, r.1, eight_points) in
        same place r.2
        ∙ (walk_law X).puts (among Reference identity) (vacant K 168) (points K (reference_bits identity subframe)) place K.blank r.0 (omega (arith, length-vacant 168)) few
        ∙ ap (λ j. get_or (points K (reference_bits identity subframe)) j K.blank) r.1)
        (references_are identity))

    pub references : ReferencesHold K identity subframe (marked K 168 identity subframe)
    references = hold (marked K 168 identity subframe) (λ place e. refl)

    pub references_stay : (bits : List ℕ) → ReferencesHold K identity subframe (carrying K 168 identity subframe bits)
    unfolding carrying
    references_stay bits = hold _ (λ place e. (walk_law X).others (among Data identity) (marked K 168 identity subframe) (points K bits) place K.blank e)

    -- the bits of a data subframe are read back
    pub read_back : LawfulKind K → (bits : List ℕ) → length bits ≡ 320 → ((k : ℕ) → k < 320 → get_or bits k 0 < 2) → aired_bits K identity (carrying K 168 identity subframe bits) ≡ Some bits
    unfolding aired_bits carrying
    read_back law bits h e =
        ap (bits_of K)
        (taken-laid (among Data identity) 0 (marked K 168 identity subframe) (points K bits)
        (length-points K bits ∙ ap (λ n. n / 2) h ∙ sym (ap (count (among Data identity) 0) (length_marked 168 identity subframe) ∙ data_elements identity)))
        ∙ bits_of_points K law bits 160 h e

  pub meets_rules : LawfulKind K → MeetsRules K
  unfolding MeetsRules
  meets_rules law = record {
    read_back = λ identity subframe. read_back identity subframe law;
    data_elements = data_elements;
    reference_elements = reference_elements;
    references = references;
    references_stay = references_stay;
  }

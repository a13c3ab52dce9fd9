-- What pro rata's functions cite: the shares seen as a list of awards and one of remainders.
use Rattle.std.proofs.Common.{◌≡◌, ℕ, suc, ◌+◌, ◌-◌, ◌<◌, ◌≤◌, List, length, get_or, slice_index, set, ap, arith}
use Rattle.std.proofs.lemmas.List.{get_or-map, map-set}
use Rattle.measures.specs.Sums.{total}
use Rattle.measures.proofs.Sums.{entry_within}
use Rattle.draw.specs.InProportion.{lot_more, spent}
use Rattle.draw.specs.ProRata.{one_each}
use Rattle.draw.proofs.Proportion.{one_higher}
use Rattle.draw.specs.Shares.{awards_of, rests_of}
use Rattle.draw.specs.declared.pro_rata.Share.{Share}

abbrev pub nothing : Share
nothing = record { award = 0; rest = 0 }

module _ (shares : List Share) (k : ℕ) (inside : k < length shares) where
  pub award_at : get_or (awards_of shares) k 0 ≡ (get_or shares k nothing).award
  award_at = get_or-map (λ share. share.award) shares k nothing 0 inside

  pub rest_at : get_or (rests_of shares) k 0 ≡ (get_or shares k nothing).rest
  rest_at = get_or-map (λ share. share.rest) shares k nothing 0 inside

pub award_within : (shares : List Share) (k : ℕ) → k < length shares → (get_or shares k nothing).award ≤ total (awards_of shares)
award_within shares k inside = omega (arith, award_at shares k inside, entry_within (awards_of shares) k)

-- a share written
pub awards-set : (shares : List Share) (k : ℕ) (share : Share) → awards_of (set shares k share) ≡ set (awards_of shares) k share.award
awards-set shares k share = map-set (λ s. s.award) shares k share

pub rests-set : (shares : List Share) (k : ℕ) (share : Share) → rests_of (set shares k share) ≡ set (rests_of shares) k share.rest
rests-set shares k share = map-set (λ s. s.rest) shares k share

-- an award with one lot more
pub awards_higher : (shares : List Share) (k : ℕ) (share : Share) → k < length shares → share.award ≡ (get_or shares k nothing).award + 1 → total (awards_of (set shares k share)) ≤ total (awards_of shares) + 1
awards_higher shares k share inside more =
    let e : share.award ≡ slice_index (awards_of shares) k + 1 = omega (arith, award_at shares k inside) in
    omega (arith, ap total (awards-set shares k share), ap (λ award. total (set (awards_of shares) k award)) e, one_higher (awards_of shares) k)

-- a turn, where n of the lots are given; and the first
pub one_more : (lots n : ℕ) (rests awards : List ℕ) → n < lots → one_each (lots - n) rests awards ≡ one_each (lots - (n + 1)) (spent rests) (lot_more rests awards)
one_more lots n rests awards h =
    let e : lots - n ≡ suc (lots - (n + 1)) = omega arith in ap (λ left. one_each left rests awards) e

pub one_turn : (lots : ℕ) (rests awards : List ℕ) → 0 < lots → one_each lots rests awards ≡ one_each (lots - 1) (spent rests) (lot_more rests awards)
one_turn lots rests awards some = let e : lots ≡ suc (lots - 1) = omega arith in ap (λ n. one_each n rests awards) e

pub ruleset giving = (award_at, awards-set, rests-set, awards_higher, award_within)

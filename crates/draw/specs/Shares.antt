-- The awards and the remainders of a demand that is being parted, account by account.
use Rattle.std.specs.Prelude.{ℕ, List, map}
use Rattle.draw.specs.declared.pro_rata.Share.{Share}

abbrev pub awards_of : List Share → List ℕ
awards_of shares = map (λ share. share.award) shares

abbrev pub rests_of : List Share → List ℕ
rests_of shares = map (λ share. share.rest) shares

-- The claims that are given, account by account, and put one after another over noughts.
use Rattle.std.proofs.Common.{◌≡◌, ℕ, suc, ◌+◌, ◌-◌, ◌<◌, ◌≤◌, List, [], ◌∷◌, ◌++◌, map, length, get_or, take, set, replicate, sym, ap, ◌∙◌, ⊎_elim, length-append, arith}
use Rattle.std.proofs.lemmas.List.{append_assoc, length-take-le, map_more, set_at, ext_get_or, get_or_append_left, get_or-append_right, get_or-map, get_or_past, get_or-replicate, length-map, length-replicate}
use Rattle.std.proofs.lemmas.Bool.{cases_lt}
use Rattle.desk.specs.Console.{claims_of, figure_of}

module _ (ns : List ℕ) (few : length ns ≤ 16) where
  long_claims : length (claims_of ns) ≡ 16
  long_claims = omega (arith, length-append (map figure_of ns) (replicate (16 - length ns) 0), length-map ns figure_of, length-replicate {A = ℕ} (16 - length ns) 0)

  claim_at : (k : ℕ) → k < 16 → get_or (claims_of ns) k 0 ≡ figure_of (get_or ns k 0)
  claim_at k inside =
      ⊎_elim
      (λ given. get_or_append_left (map figure_of ns) (replicate (16 - length ns) 0) 0 k (omega (arith, length-map ns figure_of)) ∙ get_or-map figure_of ns k 0 0 given)
      (λ past.
      get_or-append_right (map figure_of ns) (replicate (16 - length ns) 0) (length ns) k 0 (length-map ns figure_of) past
      ∙ get_or-replicate (16 - length ns) (k - length ns) 0 0 (omega arith)
      ∙ sym (ap figure_of (get_or_past ns k 0 past)))
      (cases_lt k (length ns))

  pub is_claims : (ys : List ℕ) → length ys ≡ 16 → ((k : ℕ) → k < 16 → get_or ys k 0 ≡ figure_of (get_or ns k 0)) → ys ≡ claims_of ns
  is_claims ys long each = ext_get_or 0 ys (claims_of ns) (long ∙ sym long_claims) (λ k h. let inside : k < 16 = omega arith in each k inside ∙ sym (claim_at k inside))

pub claim_more : (ns : List ℕ) (k : ℕ) → k < length ns → length ns ≤ 16 → set (map figure_of (take k ns) ++ replicate (16 - k) 0) k (figure_of (get_or ns k 0)) ≡ map figure_of (take (k + 1) ns) ++ replicate (16 - (k + 1)) 0
claim_more ns k here few =
    let figure = figure_of (get_or ns k 0) in
    let front = map figure_of (take k ns) in
    let back : List ℕ = replicate (16 - (k + 1)) 0 in
    let count : 16 - k ≡ suc (16 - (k + 1)) = omega arith in
    ap (λ n. set (front ++ replicate n 0) k figure) count
    ∙ set_at front 0 back figure k (length-map (take k ns) figure_of ∙ length-take-le k ns (omega arith))
    ∙ sym (append_assoc front (figure ∷ []) back)
    ∙ ap (λ xs. xs ++ back) (sym (map_more figure_of ns k 0 here))

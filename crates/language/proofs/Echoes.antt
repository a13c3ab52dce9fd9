-- What the echo of a word is as a text, and one word more at the end of those that were read.
use Rattle.std.proofs.Common.{◌≡◌, ℕ, ◌<◌, List, [], ◌∷◌, ◌++◌, map, sym, ap, ◌∙◌, subst, append_assoc, encode_utf8_all, arith}
use Rattle.std.proofs.lemmas.List.{append-nil}
use Rattle.std.proofs.lemmas.Bool.Decides.{nat_tests}
use Rattle.std.proofs.lemmas.List.Elements.{All-map}
use Rattle.std.proofs.lemmas.Str.{encodes-IsAscii}
use Rattle.std.proofs.lemmas.Str.Ascii.{IsAscii-from_all}
use Rattle.language.specs.Text.{Means, Meant, printed, echoed_on}
use Rattle.language.specs.declared.token.Token.{Token}

-- an echo is ASCII
pub echo_utf8 : (bs : List ℕ) → encode_utf8_all (map printed bs) ≡ map printed bs
echo_utf8 bs = encodes-IsAscii _ (IsAscii-from_all _ (All-map (λ b. b < 128) printed bs (λ k d l. grind (arith, nat_tests))))

pub meant_push : (ws : List (List ℕ)) (ts us : List Token) (w : List ℕ) (t : Token) → us ≡ ts ++ (t ∷ []) → Meant ws ts → Means w t → Meant (ws ++ (w ∷ [])) us
meant_push ws ts us w t e m h = subst (λ (xs : List Token). Meant (ws ++ (w ∷ [])) xs) (sym e) (pushed ws ts m)
  where
    pushed : (vs : List (List ℕ)) (xs : List Token) → Meant vs xs → Meant (vs ++ (w ∷ [])) (xs ++ (t ∷ []))
    pushed [] [] n = (h, tt)
    pushed [] (x ∷ xs) n = absurd n
    pushed (v ∷ vs) [] n = absurd n
    pushed (v ∷ vs) (x ∷ xs) n = (n.0, pushed vs xs n.1)

pub echoed_push : (ws : List (List ℕ)) (w : List ℕ) → echoed_on (ws ++ (w ∷ [])) ≡ echoed_on ws ++ (32 ∷ map printed w)
echoed_push [] w = ap (λ t. 32 ∷ t) (append-nil (map printed w))
echoed_push (v ∷ ws) w = ap (λ t. 32 ∷ t) (ap (λ t. map printed v ++ t) (echoed_push ws w) ∙ sym (append_assoc (map printed v) (echoed_on ws) (32 ∷ map printed w)))

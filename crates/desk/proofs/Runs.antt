-- Bytes heard and texts written one after another.
use Rattle.std.proofs.Common.{◌≡◌, ℕ, List, [], ◌∷◌, ◌++◌, Option, sym, ap, ◌∙◌, subst, append_assoc}
use Rattle.std.proofs.lemmas.List.{append-nil}
use Rattle.desk.specs.Console.{Replies}
use Rattle.desk.specs.Run.{Heard, Hears, Kept, after_line, with_byte}
use Rattle.desk.specs.Run.Heard.{goes_on, ends}
use Rattle.desk.specs.declared.answer.Answer.{Answer}
use Rattle.desk.specs.declared.state.Desk.{Desk}

-- two texts written one after the other
pub added : {b c : List ℕ} (a x y : List ℕ) → b ≡ a ++ x → c ≡ b ++ y → c ≡ a ++ (x ++ y)
added a x y e f = f ∙ ap (λ l. l ++ y) e ∙ append_assoc a x y

-- the same bytes, told otherwise
pub hears_same : {k k' : Kept} {xs ys t : List ℕ} → xs ≡ ys → Hears k xs k' t → Hears k ys k' t
hears_same {k} {k'} {t = t} e h = subst (λ (bs : List ℕ). Hears k bs k' t) e h

pub hears_then : {k k' k'' : Kept} {xs ys t u : List ℕ} → Hears k xs k' t → Hears k' ys k'' u → Hears k (xs ++ ys) k'' (t ++ u)
hears_then {k'' = k''} {xs = xs} {ys = ys} {t = t} {u = u} g h = record {
  after = λ {input} {before} was.
      subst (λ (bs : List ℕ). Heard bs k'' (before ++ (t ++ u))) (append_assoc input xs ys)
      (subst (λ (ts : List ℕ). Heard ((input ++ xs) ++ ys) k'' ts) (append_assoc before t u) (h.after (g.after was)));
}

module _ {b : ℕ} {k k' : Kept} where
  -- a byte that goes on with the line
  pub on_byte : (b ≡ 10 → ⊥) → k' ≡ with_byte k b → Hears k (b ∷ []) k' []
  on_byte other e = record {
    after = λ {input} {before} was.
        subst (λ (l : Kept). Heard (input ++ (b ∷ [])) l (before ++ [])) (sym e)
        (subst (λ (ts : List ℕ). Heard (input ++ (b ∷ [])) (with_byte k b) ts) (sym (append-nil before)) (goes_on was other));
  }

  -- the byte that ends the line
  pub on_end : (o : Option Answer) (desk : Desk) (reply : List ℕ) → b ≡ 10 → Replies k.line k.desk o desk reply → k' ≡ after_line k o desk → Hears k (b ∷ []) k' reply
  on_end o desk reply ten says e = record {
    after = λ {input} {before} was.
        subst (λ (c : ℕ). Heard (input ++ (c ∷ [])) k' (before ++ reply)) (sym ten)
        (subst (λ (l : Kept). Heard (input ++ (10 ∷ [])) l (before ++ reply)) (sym e) (ends o desk reply was says));
  }

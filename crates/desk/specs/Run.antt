-- A run of the console: what it wrote, for all that it heard so far.
use Rattle.std.specs.Prelude.{◌≡◌, ℕ, Bool, true, false, if◌then◌else◌, ◌||◌, List, [], ◌∷◌, ◌++◌, length, Some, Option, ◌≢◌, nat_le}
use Rattle.desk.specs.Console.{Replies, longest_line}
use Rattle.desk.specs.State.{first_draw}
use Rattle.desk.specs.declared.answer.Answer.{Answer}
use Rattle.desk.specs.declared.answer.Answer.TheVariants.{Error}
use Rattle.desk.specs.declared.state.Desk.{Desk}

-- what the console keeps: the line that is not at its end yet, whether an error was told, and the desk
pub record Kept : Type 0 where
  pub line : List ℕ
  pub bad : Bool
  pub desk : Desk

-- at the start
abbrev pub nothing_heard : Kept
nothing_heard = record { line = []; bad = false; desk = record { draw = first_draw } }

-- a byte more of the line; of a line that is too long, one byte more than the longest has is kept
abbrev pub with_byte : Kept → ℕ → Kept
with_byte k b = record { line = if nat_le (length k.line) longest_line then k.line ++ (b ∷ []) else k.line; bad = k.bad; desk = k.desk }

-- the answer tells an error
abbrev pub is_error : Option Answer → Bool
is_error (Some (Error fault)) = true
is_error _ = false

-- after the line was answered so, and the desk left so
abbrev pub after_line : Kept → Option Answer → Desk → Kept
after_line k o b = record { line = []; bad = k.bad || is_error o; desk = b }

-- Heard input k text: for the input so far the text was written, and the console keeps k
pub data Heard : List ℕ → Kept → List ℕ → Type 0 where
  opened : Heard [] nothing_heard []
  goes_on : {input text : List ℕ} {k : Kept} {b : ℕ} → Heard input k text → (b ≢ 10) → Heard (input ++ (b ∷ [])) (with_byte k b) text
  ends : {input text : List ℕ} {k : Kept} (o : Option Answer) (b : Desk) (reply : List ℕ) → Heard input k text → Replies k.line k.desk o b reply → Heard (input ++ (10 ∷ [])) (after_line k o b) (text ++ reply)

-- whatever was heard before, these bytes were heard after it, and the text was written for them
pub record Hears (k : Kept) (bytes : List ℕ) (k' : Kept) (text : List ℕ) : Type 0 where
  pub after : {input before : List ℕ} → Heard input k before → Heard (input ++ bytes) k' (before ++ text)

-- a whole run: the input, a last line without an end included, and all that was written for it
pub record Ran (input text : List ℕ) (bad : Bool) : Type 0 where
  pub kept : Kept
  pub before : List ℕ
  pub answer : Option Answer
  pub desk : Desk
  pub last : List ℕ
  pub heard : Heard input kept before
  pub replies : Replies kept.line kept.desk answer desk last
  pub whole : text ≡ before ++ last
  pub faulty : bad ≡ (kept.bad || is_error answer)

-- How each command is written: its name, and its arguments.
use Rattle.std.specs.Prelude.{List, ◌∷◌}
use Rattle.language.specs.Language.{award_words, draw_words, expiry_words, lot_words}
use Rattle.language.specs.declared.command.Command.{Command}
use Rattle.language.specs.declared.command.Command.TheVariants.{Expiry, Lot, Draw, Award}
use Rattle.language.specs.declared.token.Token.{Token}
use Rattle.language.specs.declared.token.Token.TheVariants.{Name}
use Rattle.language.specs.declared.word.Verb.TheVariants as verb

abbrev pub written : Command → List Token
written (Expiry a) = Name verb.Expiry ∷ expiry_words a
written (Lot a) = Name verb.Lot ∷ lot_words a
written (Draw a) = Name verb.Draw ∷ draw_words a
written (Award a) = Name verb.Award ∷ award_words a

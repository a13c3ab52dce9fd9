use Rattle.std.proofs.Common.{List, ◌∷◌, ◌++◌, map, vec_items, string_bytes, subst}
use Rattle.desk.specs.Console.{Answers}
use Rattle.language.specs.Text.{echoed_on, printed, words}
use Rattle.language.specs.declared.token.Token.{Token}
use Rattle.desk.proofs.Runs.{added}
use Rattle.desk.proofs.state.Desk.reply_to.Goals as goal

pub returns : goal.returns
returns c =
    let out = string_bytes c.args.out.now in
    let first = map printed c.args.first.now in
    let rest = echoed_on (words c.args.rest.now) in
    let read = c.in_ok-args.ensures in
    let answered = subst (λ (ts : List Token). Answers (c.read.result ∷ ts) c.args.self.now c.in_ok-answer.answer c.answer.new.self) c.deref.ensures.value c.in_ok-answer.ensures in (
      (c.read.result ∷ vec_items c.in_ok-args.args, (c.read.ensures, read.means), answered),
      added out (first ++ rest) _ (added out first rest c.in_ok-echo_word.ensures read.echoes) c.in_ok-writeln.ensures.bytes,
    )

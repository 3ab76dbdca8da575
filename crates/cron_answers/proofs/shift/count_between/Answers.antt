use Rattle.std.proofs.Common.{◌≡◌, ℕ, List, ◌++◌, Option, Some, None, SomeIff, sym, ap, subst, ◌∙◌}
use Rattle.std.specs.Str.Parse.{digits_value}
use Rattle.std.proofs.lemmas.List.{append_cancel_left, append_cancel_right}
use Rattle.cron_walk_listing.specs.Arguments.{IsCount}
use Rattle.cron_answers.specs.Instants.{TellsSecond}
use Rattle.cron_answers.specs.Shifts.{IsCountOf}
use Rattle.cron_answers.proofs.shift.count_between.Goals as goal

-- between the sign and the unit stand the digits alone
tells : (text sign unit rest digits : List ℕ) (r : Option ℕ) → text ≡ sign ++ rest → rest ≡ digits ++ unit
    → SomeIff r (IsCount digits) (digits_value 10 digits) → TellsSecond (IsCountOf sign unit text) r
tells text sign unit rest digits None front back h = λ n told.
    let same : rest ≡ told.0 ++ unit = append_cancel_left sign rest (told.0 ++ unit) (sym front ∙ told.1) in
    let is : told.0 ≡ digits = append_cancel_right told.0 digits unit (sym same ∙ back) in
    h (subst IsCount is told.2)
tells text sign unit rest digits (Some n) front back h = (digits, front ∙ ap (λ s. sign ++ s) back, h.0, h.1)

pub returns : goal.returns
returns c =
    let front = c.in-Some.ensures.cases in
    let back = c.in-Some-strip_suffix.ensures.cases in
    tells c.args.text.now c.args.sign.now c.args.unit.now c.in-Some.rest.now c.in-Some-strip_suffix.digits.now c.count_of.result
    (front.1.1 ∙ ap (λ s. c.args.sign.now ++ s) (sym front.2)) (back.1.1 ∙ ap (λ s. s ++ c.args.unit.now) (sym back.2)) c.count_of.ensures

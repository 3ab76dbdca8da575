use Rattle.std.proofs.Common.{◌≡◌, ◌-◌, length, sym, ◌∙◌}
use Rattle.std.specs.Prelude.{slice_range}
use Rattle.std.specs.Str.{IsUtf8, IsValidUpTo, valid_up_to}
use Rattle.cron_answers.proofs.StampLemmas.{due_text-utf8, middle, no_text}
use Rattle.cron_answers.proofs.stamp.guess.Goals as goal

pub returns-in_err-text : goal.returns-in_err-text
returns-in_err-text c = λ d h.
    let text = slice_range c.args.bytes.now 18 (length c.args.bytes.now - 2) in
    let is : IsUtf8 text = rw (middle d c.args.bytes.now h.1) (due_text-utf8 d) in
    absurd (no_text (IsUtf8 text) (λ s. (s.now ≡ text) × IsUtf8 text) (λ e. IsValidUpTo text (valid_up_to e)) c.from_utf8.result c.from_utf8.ensures.cases (sym c.ok.ensures.value ∙ c.in_err-text.was) is)

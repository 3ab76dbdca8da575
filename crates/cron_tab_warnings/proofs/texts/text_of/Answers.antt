use Rattle.std.proofs.Common.{ℕ, take, ap, sym, ◌∙◌}
use Rattle.std.proofs.Math.Seq.{take-length}
use Rattle.std.proofs.lemmas.Str.{utf8_valid_len-IsUtf8}
use Rattle.cron_tab_warnings.proofs.texts.text_of.Goals as goal

pub returns-in-Ok : goal.returns-in-Ok
returns-in-Ok c =
    let whole = c.in-Ok.ensures.cases in
    whole.0 ∙ (sym (take-length c.args.line.now) ∙ ap (λ (n : ℕ). take n c.args.line.now) (sym (utf8_valid_len-IsUtf8 c.args.line.now whole.1)))

use Rattle.std.proofs.Common.{ℕ, List, ◌++◌, ap, ◌∙◌}
use Rattle.std.specs.Prelude.{codes}
use Rattle.std.proofs.lemmas.Result.{on_ok_weaker}
use Rattle.cron_findings.proofs.WritingLemmas.{written_5}
use Rattle.cron_findings.specs.Members.{number_member}
use Rattle.cron_findings.proofs.objects.write_place.Goals as goal

pub returns : goal.returns
returns c =
    on_ok_weaker c.write_bytes.result
    (λ more. written_5 _ _ _ _ _
    c.args.object.now.tokens c.write_string.new.object.tokens c.write_number.new.object.tokens c.write_number-2.new.object.tokens c.write_number-3.new.object.tokens c.write_bytes.new.object.tokens
    c.args.object.now.before c.write_string.new.object.before c.write_number.new.object.before c.write_number-2.new.object.before c.write_number-3.new.object.before c.write_bytes.new.object.before
    c.in_ok-write_string.ensures
    c.in_ok-write_number.ensures
    (c.in_ok-write_number-2.ensures.0 ∙ ap (λ (n : ℕ). c.write_number.new.object.tokens ++ number_member (codes "column") n) c.column.ensures.value, c.in_ok-write_number-2.ensures.1)
    (c.in_ok-write_number-3.ensures.0 ∙ ap (λ (n : ℕ). c.write_number-2.new.object.tokens ++ number_member (codes "end") n) c.end_column.ensures, c.in_ok-write_number-3.ensures.1)
    more)
    c.write_bytes.ensures

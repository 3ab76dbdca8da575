use Rattle.std.proofs.Common.{ℕ, List, ◌++◌, ap, ◌∙◌}
use Rattle.std.specs.Prelude.{codes}
use Rattle.std.proofs.lemmas.Result.{on_ok_weaker}
use Rattle.cron_findings.proofs.WritingLemmas.{written_4}
use Rattle.cron_findings.specs.Members.{string_member}
use Rattle.cron_findings.proofs.sarif.write_result.Goals as goal

pub returns : goal.returns
returns c =
    on_ok_weaker c.write_locations.result
    (λ more. written_4 _ _ _ _
    c.args.object.now.tokens c.write_string.new.object.tokens c.write_string-2.new.object.tokens c.write_told.new.object.tokens c.write_locations.new.object.tokens
    c.args.object.now.before c.write_string.new.object.before c.write_string-2.new.object.before c.write_told.new.object.before c.write_locations.new.object.before
    c.in_ok-write_string.ensures
    (c.in_ok-write_string-2.ensures.0 ∙ ap (λ (w : List ℕ). c.write_string.new.object.tokens ++ string_member (codes "level") w) c.severity_word.ensures, c.in_ok-write_string-2.ensures.1)
    c.in_ok-write_told.ensures
    more)
    c.write_locations.ensures

use Rattle.std.proofs.Common.{ℕ, List, ◌++◌, ap, ◌∙◌}
use Rattle.std.specs.Prelude.{codes}
use Rattle.std.proofs.lemmas.Result.{on_ok_weaker}
use Rattle.cron_findings.proofs.WritingLemmas.{written_6}
use Rattle.cron_findings.specs.Members.{number_member}
use Rattle.cron_findings.proofs.sarif.write_region.Goals as goal

pub returns : goal.returns
returns c =
    on_ok_weaker c.end_object.result
    (λ more. written_6 _ _ _ _ _ _
    c.args.object.now.tokens c.key.new.self.tokens c.begin_object.new.self.tokens c.write_number.new.object.tokens c.write_number-2.new.object.tokens c.write_number-3.new.object.tokens c.end_object.new.self.tokens
    c.args.object.now.before c.key.new.self.before c.begin_object.new.self.before c.write_number.new.object.before c.write_number-2.new.object.before c.write_number-3.new.object.before c.end_object.new.self.before
    (c.in_ok-key.ensures.ok, c.key.ensures.room.0)
    (c.in_ok-begin_object.ensures.ok, c.begin_object.ensures.room.0)
    c.in_ok-write_number.ensures
    (c.in_ok-write_number-2.ensures.0 ∙ ap (λ (n : ℕ). c.write_number.new.object.tokens ++ number_member (codes "startColumn") n) c.column.ensures.value, c.in_ok-write_number-2.ensures.1)
    (c.in_ok-write_number-3.ensures.0 ∙ ap (λ (n : ℕ). c.write_number-2.new.object.tokens ++ number_member (codes "endColumn") n) c.end_column.ensures, c.in_ok-write_number-3.ensures.1)
    (more, c.end_object.ensures.room.0))
    c.end_object.ensures.ok

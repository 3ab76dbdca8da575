use Rattle.std.proofs.Common.{ℕ}
use Rattle.std.proofs.lemmas.Result.{on_ok_weaker}
use Rattle.cron_findings.proofs.WritingLemmas.{written_7}
use Rattle.cron_findings.proofs.sarif.write_location.Goals as goal

pub returns : goal.returns
returns c =
    on_ok_weaker c.end_object-2.result
    (λ more. written_7 _ _ _ _ _ _ _
    c.args.object.now.tokens c.begin_object.new.self.tokens c.key.new.self.tokens c.begin_object-2.new.self.tokens c.write_artifact.new.object.tokens c.write_region.new.object.tokens c.end_object.new.self.tokens c.end_object-2.new.self.tokens
    c.args.object.now.before c.begin_object.new.self.before c.key.new.self.before c.begin_object-2.new.self.before c.write_artifact.new.object.before c.write_region.new.object.before c.end_object.new.self.before c.end_object-2.new.self.before
    (c.in_ok-begin_object.ensures.ok, c.begin_object.ensures.room.0)
    (c.in_ok-key.ensures.ok, c.key.ensures.room.0)
    (c.in_ok-begin_object-2.ensures.ok, c.begin_object-2.ensures.room.0)
    c.in_ok-write_artifact.ensures
    c.in_ok-write_region.ensures
    (c.in_ok-end_object.ensures.ok, c.end_object.ensures.room.0)
    (more, c.end_object-2.ensures.room.0))
    c.end_object-2.ensures.ok

use Rattle.std.proofs.Common.{ℕ}
use Rattle.std.proofs.lemmas.Result.{on_ok_weaker}
use Rattle.cron_findings.proofs.WritingLemmas.{written_5}
use Rattle.cron_findings.proofs.sarif.write_run_front.Goals as goal

pub returns : goal.returns
returns c =
    on_ok_weaker c.begin_array.result
    (λ more. written_5 _ _ _ _ _
    c.args.object.now.tokens c.begin_object.new.self.tokens c.write_tool.new.object.tokens c.write_string.new.object.tokens c.key.new.self.tokens c.begin_array.new.self.tokens
    c.args.object.now.before c.begin_object.new.self.before c.write_tool.new.object.before c.write_string.new.object.before c.key.new.self.before c.begin_array.new.self.before
    (c.in_ok-begin_object.ensures.ok, c.begin_object.ensures.room.0)
    c.in_ok-write_tool.ensures
    c.in_ok-write_string.ensures
    (c.in_ok-key.ensures.ok, c.key.ensures.room.0)
    (more, c.begin_array.ensures.room.0))
    c.begin_array.ensures.ok

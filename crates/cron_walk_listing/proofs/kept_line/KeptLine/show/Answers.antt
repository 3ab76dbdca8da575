use Rattle.std.proofs.Common.{take, ap, ◌∙◌}
use Rattle.cron_walk_listing.proofs.KeptLines.{SameDay, same_but_second, same_but_time}
use Rattle.cron_walk_listing.specs.declared.kept_line.KeptLine.TheInside.{Inside}
use Rattle.cron_walk_listing.proofs.kept_line.KeptLine.show.Goals as goal
use Rattle.cron_walk_listing.proofs.kept_line.KeptLine.show.Goals.{then-now-was-2, else-now-was-2}

pub invariant_of-self-2 : goal.invariant_of-self-2
invariant_of-self-2 c =
    let (fits, kept) = c.self.invariant in
    let known : SameDay c.self.inside.moment c.args.moment.now c.civil_second-was.result c.civil_second-now.result c.offset-else-now-was.result c.offset.result
    = record {
      was_is = c.civil_second-was.ensures;
      now_is = c.civil_second-now.ensures;
      day = c.if-now-was.false;
      before_is = c.offset-else-now-was.ensures;
      after_is = c.offset.ensures;
      offset = c.if-ne.ensures;
    } in
    elim c.if-now-was-2.branch [
      | then-now-was-2 w ↦
          let len = ap (λ (i : Inside). i.len) w.self-inside-is in
          let bytes = ap (λ (i : Inside). i.bytes) w.self-inside-is in (
            rw len fits,
            rw len (same_but_time c.self.inside.moment c.args.moment.now c.civil_second-was.result c.civil_second-now.result _ _ c.self.inside.len
                c.self.inside.bytes _ _ c.put_two-2.new.bytes known kept w.put_two.ensures (bytes ∙ w.put_two-then-now-was-2.ensures) c.put_two-2.ensures),
          )
      | else-now-was-2 w ↦
          let len = ap (λ (i : Inside). i.len) w.self-inside-is in
          let bytes = ap (λ (i : Inside). i.bytes) w.self-inside-is in (
            rw len fits,
            rw len (same_but_second c.self.inside.moment c.args.moment.now c.civil_second-was.result c.civil_second-now.result _ _ c.self.inside.len
                c.if-now-was-2.self-inside.bytes c.put_two-2.new.bytes known w.if-now-was-2.false (ap (λ l. take c.self.inside.len l) bytes ∙ kept)
                c.put_two-2.ensures),
          )
    ]

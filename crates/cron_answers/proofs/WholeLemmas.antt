-- Lines in place of an expression, what is written of it, and why nothing can be explained.
use Rattle.std.proofs.Common.{◌≡◌, subst, ℕ, ℤ, false, List}
use Rattle.std.specs.String.{string_bytes}
use Rattle.cron_time.specs.Seconds.{Seconds}
use Rattle.cron_fires.specs.declared.changes.ClockChanges.{ClockChanges}
use Rattle.cron_crontab.specs.Views.{expression_view}
use Rattle.cron_tab_lines.specs.Lines as lines
use Rattle.cron_tab_lines.specs.Lines.{IsLine}
use Rattle.cron_tab_lines.specs.Views.{entry_view}
use Rattle.cron_tab_lines.specs.declared.kinds.Crontab.TheVariants.{User}
use Rattle.cron_tab_lines.specs.declared.kinds.Entry.{Entry}
use Rattle.jiff_tz.specs.declared.timezone.TimeZone.{TimeZone}
use Rattle.cron_answers.specs.Answers.{Given, IsNotAsked, IsOpened}
use Rattle.cron_answers.specs.Explanations.{IsUnexplained, IsYearAfter, start_of}
use Rattle.cron_answers.specs.Expressions.{changes_by}
use Rattle.cron_answers.specs.Inner.Explanations.{AreTexts}
use Rattle.cron_answers.specs.Reports.{IsHead, tally_text}
use Rattle.cron_answers.specs.Tallies.{IsTallyBy}
use Rattle.cron_answers.specs.Subjects.{IsNoWhole}
use Rattle.cron_answers.specs.Wholes.{may_be_field, IsOfEntry, IsOfMeaning, IsReadWhole}
use Rattle.cron_answers.specs.declared.answer.Request.{Request}
use Rattle.cron_answers.specs.declared.explain.Texts.{Texts}
use Rattle.cron_answers.specs.declared.fires.Asked.{Asked}
use Rattle.cron_answers.specs.declared.tally.Tally.{Tally}
use Rattle.cron_answers.specs.declared.expression.Expression.{Expression}
use Rattle.cron_answers.specs.declared.trouble.Trouble.{Trouble}
use Rattle.cron_answers.specs.declared.trouble.Trouble.TheVariants.{Expression as Unread, Zone, Instant, Whole, Order, Format, NoMemory}

-- the line has this entry, of the expression
pub has_entry : (text : List ℕ) (e : Entry) (expression : Expression) → IsLine User text (lines.entry (entry_view e)) → may_be_field e.command.now ≡ false
    → IsOfMeaning text (expression_view e.expression) expression → IsOfEntry text expression
has_entry text e expression line begins meaning = (entry_view e, (line, begins), meaning)

-- there is no expression, in a line neither, or the zone can't be had
pub no_whole : {F : Type 0} (g : Given F) (r : Request) (old new : F) (t : Trouble)
    → IsNoWhole g.reads g.places r.quartz r.expression.now r.zone.now old t new → IsUnexplained g r old new t
no_whole g r old new (Unread text refusal) h = h
no_whole g r old new (Zone text error) h = h
no_whole g r old new (Instant word) h = absurd h
no_whole g r old new (Whole word) h = absurd h
no_whole g r old new (Order first last) h = absurd h
no_whole g r old new (Format word) h = absurd h
no_whole g r old new NoMemory h = absurd h

-- the expression was read and the zone opened, and then it was found
pub not_asked : {F : Type 0} (g : Given F) (r : Request) (old new : F) (t : Trouble) (e : Expression) (z : TimeZone)
    → IsReadWhole r.quartz r.expression.now e → IsOpened g r old z new → IsNotAsked r.which z g.now t → IsUnexplained g r old new t
not_asked g r old new (Unread text refusal) e z reads opened h = absurd h
not_asked g r old new (Zone text error) e z reads opened h = absurd h
not_asked g r old new (Instant word) e z reads opened h = ((e, reads), (z, opened, h))
not_asked g r old new (Whole word) e z reads opened h = ((e, reads), (z, opened, h))
not_asked g r old new (Order first last) e z reads opened h = ((e, reads), (z, opened, h))
not_asked g r old new (Format word) e z reads opened h = absurd h
not_asked g r old new NoMemory e z reads opened h = absurd h

-- the texts before and after the rows, of what was found for them
pub made_texts : (r : Request) (e : Expression) (s : Seconds) (z : TimeZone) (asked : Asked) (texts : Texts) (start end : ℤ) (changes : ClockChanges) (tally : Tally)
    → IsHead r.form r.expression.now e r.plan_lines.now (string_bytes texts.head) → start ≡ start_of asked → IsYearAfter start end
    → changes ≡ changes_by r.changes e → IsTallyBy changes s z start end tally
    → string_bytes texts.tail ≡ tally_text r.form tally → AreTexts r e s z asked texts
made_texts r e s z asked texts start end changes tally head from year by is_tally tail = record {
  is_head = head;
  end = end;
  is_end = subst (λ at. IsYearAfter at end) from year;
  tally = tally;
  is_tally = subst (λ at. IsTallyBy (changes_by r.changes e) s z at end tally) from (subst (λ rule. IsTallyBy rule s z start end tally) by is_tally);
  tail = tail;
}

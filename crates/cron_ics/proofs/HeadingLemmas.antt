-- What the events of an entry share, and how they are pushed.
use Rattle.std.proofs.Common.{◌≡◌, ℕ, Bool, true, false, List, Result, Ok, Err, OnOk, is_err, refl, sym, ◌∙◌, string_bytes, true≢false}
use Rattle.cron_ics.specs.Calendars.{shared_by}
use Rattle.cron_ics.specs.Events.{copies, digest_text, shared, summary_line}
use Rattle.cron_ics.specs.declared.calendar.Wanted.{Wanted}
use Rattle.cron_ics.specs.declared.entry.Entry.{Entry}
use Rattle.cron_ics.specs.declared.event.Heading.{Heading}

pub shared_is : (w : Wanted) (before : List Entry) (e : Entry) (h : Heading) → string_bytes h.digest ≡ digest_text e.text.now
    → h.copy ≡ copies e.text.now before → h.domain.text.now ≡ w.domain.text.now → h.minutes ≡ w.minutes
    → h.summary.items ≡ summary_line e.summary.now → shared h ≡ shared_by w before e h.stamp
shared_is w before e h digest copy domain minutes summary = rw (digest, copy, domain, minutes, summary) refl

-- a call that didn't fail
pub went_well : {A E : Type 0} (r : Result A E) (failed : Bool) (P : Type 0) → failed ≡ is_err r → failed ≡ false → OnOk r P → P
went_well (Ok x) failed P is none p = p
went_well (Err e) failed P is none p = absurd (true≢false (sym is ∙ none))

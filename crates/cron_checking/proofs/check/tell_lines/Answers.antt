use Rattle.std.proofs.Common.{◌≡◌, ◌+◌, ◌++◌, ℕ, Bool, List, [], ◌∷◌, length, refl, sym, ap, subst, append-nil, inl, arith}
use Rattle.std.proofs.lemmas.List.{length_push}
use Rattle.std.proofs.KnownBytes.{Consumes-nil}
use Rattle.cron_checking.specs.Lines.{AreEnded}
use Rattle.cron_checking.specs.Puts.{Puts}
use Rattle.cron_checking.specs.Reports.{TellsLine}
use Rattle.cron_checking.specs.declared.line.Telling.{Telling}
use Rattle.cron_checking.specs.declared.line_reader.Given.TheVariants.{Line}
use Rattle.cron_checking.proofs.Putting.{nothing_put, put_on}
use Rattle.cron_checking.proofs.ReadLemmas.{line_on, last_read}
use Rattle.cron_checking.proofs.Telling.{nothing_read, no_piece, line_read, read_on, read_whole, read_through, ended_lines, given_whole, whole_on, line_told, ended_at, ended_puts, ended_unfailed, line_stops}
use Rattle.cron_checking.proofs.check.tell_lines.Goals as goal

numbered : (how : Telling) (n k : ℕ) (line text : List ℕ) (bad : Bool) → n ≡ k → TellsLine how n line text bad → TellsLine how k line text bad
numbered how n k line text bad e h = subst (λ (m : ℕ). TellsLine how m line text bad) e h

counted : (n : ℕ) (checked : List (List ℕ)) (line : List ℕ) → n ≡ 1 + length checked → n + 1 ≡ 1 + length (checked ++ line ∷ [])
counted n checked line e = omega (arith, length_push checked line)

pub loop-number-init : goal.loop-number-init
loop-number-init g c = ([], [], nothing_read _, (refl, refl), refl, nothing_put _ _ _ _, ([], refl))

pub returns-in-End-clause-tells : goal.returns-in-End-clause-tells
returns-in-End-clause-tells g c =
    let (checked, report, read, told, count, puts, calls) = c.loop-number.invariant in
    record {
      checked = checked;
      front = read.bytes;
      piece = [];
      report = report;
      refused = c.loop-number.refused;
      read = read_on _ _ _ checked [] read c.in-End.ensures.gives.0;
      one_line = no_piece;
      ends =
          ended_at _ _ _ read.bytes [] checked _ c.end_of.ensures (read_through _ _ _ _ read.consumed c.in-End.ensures.gives.1)
          (ended_lines read.bytes checked read.cut) refl;
      tells = told;
      puts = subst (Puts _ _ _ _ _ _) (ended_puts _ _ _ (length checked) report c.end_of.ensures) puts;
      failed = ended_unfailed _ _ _ c.end_of.ensures;
    }

pub returns-in-OutOfMemory-clause-tells : goal.returns-in-OutOfMemory-clause-tells
returns-in-OutOfMemory-clause-tells g c =
    let (checked, report, read, told, count, puts, calls) = c.loop-number.invariant in
    let (piece, consumed, one) = c.in-OutOfMemory.ensures.gives in
    record {
      checked = checked;
      front = read.bytes;
      piece = piece;
      report = report;
      refused = c.loop-number.refused;
      read = read_on _ _ _ checked piece read consumed;
      one_line = one;
      ends = read.cut;
      tells = told;
      puts = subst (Puts _ _ _ _ _ _) (sym (append-nil report)) puts;
      failed = λ f. absurd (cc);
    }

pub returns-in-Unreadable-clause-tells : goal.returns-in-Unreadable-clause-tells
returns-in-Unreadable-clause-tells g c =
    let (checked, report, read, told, count, puts, calls) = c.loop-number.invariant in
    let (piece, consumed, one) = c.in-Unreadable.ensures.gives in
    record {
      checked = checked;
      front = read.bytes;
      piece = piece;
      report = report;
      refused = c.loop-number.refused;
      read = read_on _ _ _ checked piece read consumed;
      one_line = one;
      ends = read.cut;
      tells = told;
      puts = subst (Puts _ _ _ _ _ _) (sym (append-nil report)) puts;
      failed = λ f. absurd (cc);
    }

pub returns-clause-tells : goal.returns-clause-tells
returns-clause-tells g c =
    let (checked, report, read, told, count, puts, calls) = c.loop-number.invariant in
    record {
      checked = checked;
      front = read.bytes;
      piece = [];
      report = report;
      refused = c.loop-number.refused;
      read = read_on _ _ _ checked [] read (Consumes-nil _);
      one_line = no_piece;
      ends = read.cut;
      tells = told;
      puts = subst (Puts _ _ _ _ _ _) (sym (append-nil report)) puts;
      failed = λ f. absurd (cc);
    }

pub returns-in-Err-clause-tells : goal.returns-in-Err-clause-tells
returns-in-Err-clause-tells g c =
    let (checked, report, read, told, count, puts, calls) = c.loop-number.invariant in
    let (piece, consumed, one, more, through) = c.in-Line.ensures.gives in
    let (put, stops, put_now) = c.in-Err.ensures in
    line_stops _ _ _ _ _ _ _ _ _ _ _ _ checked report _ _ _ piece put c.in-Err.end read told count puts consumed
    (given_whole _ _ piece _ _ _ c.as_slice.ensures.value one more through) stops put_now

pub returns-then-last-clause-tells : goal.returns-then-last-clause-tells
returns-then-last-clause-tells g c =
    let (checked, report, read, told, count, puts, calls) = c.loop-number.invariant in
    let (piece, consumed, one, more, through) = c.in-Line.ensures.gives in
    let (put, (unfailed, tells), put_now) = c.in-Ok.ensures in
    let line = c.as_slice.result.now in
    record {
      checked = checked ++ line ∷ [];
      front = read.bytes ++ piece;
      piece = [];
      report = report ++ put;
      refused = _;
      read = read_whole _ _ _ checked piece read consumed;
      one_line = no_piece;
      ends =
          ended_at _ _ _ (read.bytes ++ piece) [] (checked ++ line ∷ []) _ c.end_of-then-last.ensures
          (read_through _ _ _ _ read.consumed (through c.if-last.true))
          (whole_on _ _ _ checked line piece read (given_whole _ _ piece _ _ _ c.as_slice.ensures.value one more through)).0 refl;
      tells = line_told c.args.how.now 1 checked line report put _ _ told (numbered c.args.how.now _ _ line put c.in-Ok.bad count tells);
      puts =
          subst (Puts _ _ _ _ _ _) (ended_puts _ _ _ (length (checked ++ line ∷ [])) (report ++ put) c.end_of-then-last.ensures)
          (put_on _ _ _ _ _ _ _ _ report put puts put_now);
      failed = ended_unfailed _ _ _ c.end_of-then-last.ensures;
    }

pub loop-number-preserved : goal.loop-number-preserved
loop-number-preserved g c =
    let (checked, report, read, told, count, puts, calls) = c.loop-number.invariant in
    let (piece, consumed, one, more, through) = c.in-Line.ensures.gives in
    let (put, (unfailed, tells), put_now) = c.in-Ok.ensures in
    let line = c.as_slice.result.now in (
      checked ++ line ∷ [],
      report ++ put,
      line_read _ _ _ checked line piece read consumed
          (subst (λ (l : List ℕ). AreEnded piece (l ∷ [])) (sym c.as_slice.ensures.value) (more c.if-last.false)),
      line_told c.args.how.now 1 checked line report put _ _ told (numbered c.args.how.now _ _ line put c.in-Ok.bad count tells),
      counted _ checked line count,
      put_on _ _ _ _ _ _ _ _ report put puts put_now,
      line_on _ _ _ _ _ calls (ap Line c.if-last.false) c.in-Line.ensures.call,
    )

pub returns-clause-reads : goal.returns-clause-reads
returns-clause-reads g c =
    let (checked, report, read, told, count, puts, (lines, calls)) = c.loop-number.invariant in (lines, _, calls, inl refl)

pub returns-in-End-clause-reads : goal.returns-in-End-clause-reads
returns-in-End-clause-reads g c =
    let (checked, report, read, told, count, puts, calls) = c.loop-number.invariant in last_read _ _ _ _ _ calls c.in-End.ensures.call

pub returns-in-OutOfMemory-clause-reads : goal.returns-in-OutOfMemory-clause-reads
returns-in-OutOfMemory-clause-reads g c =
    let (checked, report, read, told, count, puts, calls) = c.loop-number.invariant in last_read _ _ _ _ _ calls c.in-OutOfMemory.ensures.call

pub returns-in-Unreadable-clause-reads : goal.returns-in-Unreadable-clause-reads
returns-in-Unreadable-clause-reads g c =
    let (checked, report, read, told, count, puts, calls) = c.loop-number.invariant in last_read _ _ _ _ _ calls c.in-Unreadable.ensures.call

pub returns-in-Err-clause-reads : goal.returns-in-Err-clause-reads
returns-in-Err-clause-reads g c =
    let (checked, report, read, told, count, puts, calls) = c.loop-number.invariant in last_read _ _ _ _ _ calls c.in-Line.ensures.call

pub returns-then-last-clause-reads : goal.returns-then-last-clause-reads
returns-then-last-clause-reads g c =
    let (checked, report, read, told, count, puts, calls) = c.loop-number.invariant in last_read _ _ _ _ _ calls c.in-Line.ensures.call

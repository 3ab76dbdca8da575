use Rattle.std.proofs.Common.{◌≡◌, ℕ, ◌+◌, ◌-◌, ◌<◌, Option, Some, List, [], ◌∷◌, ◌++◌, false, Result, refl, sym, ap, ◌∙◌, subst, append_assoc, append-nil, arith, rules}
use Rattle.std.proofs.lemmas.List.{map-append}
use Rattle.cron_time.specs.Walk.Cursor.{Walk, Steps}
use Rattle.cron_moments.specs.MomentText.{item_line}
use Rattle.cron_moments.specs.Readings.{Reading}
use Rattle.cron_walk_listing.specs.Output.{direction, answer_line, answers_of, first_there, last_item, lines_of}
use Rattle.std.specs.Prelude.{map}
use Rattle.std.specs.declared.io.Error.{Error}
use Rattle.cron_writer.specs.Calls.{AreGathered, Gathers}
use Rattle.cron_writer.specs.Watching.{has_failed, IsGathered}
use Rattle.cron_writer.specs.declared.watched.Watched.{Watched}
use Rattle.cron_walk_listing.proofs.Lines.{lines_none, lines_step, lines_stop, last_done, last_more, last_stop}
use Rattle.cron_writer.proofs.Calling.{no_write, writes_on}
use Rattle.cron_writer.proofs.Gathering.{gathered_on, gathered_part, nothing_gathered}
use Rattle.cron_walk_listing.proofs.run.gather_items.Goals as goal

one_less : (count i : ℕ) → i < count → count - i ≡ count - (i + 1) + 1
one_less count i h = omega arith

-- the line of one more item, and those of the others
one_more : (all sent line : List ℕ) (old new : Walk) (back : _) (r : Reading) (count i : ℕ) → i < count → all ≡ sent ++ lines_of back old (count - i)
    → Steps (direction back) old (Some r) new → line ≡ answer_line (Some r) → all ≡ (sent ++ line) ++ lines_of back new (count - (i + 1))
one_more all sent line old new back r count i h e s is =
    e ∙ (ap (λ (n : ℕ). sent ++ lines_of back old n) (one_less count i h)
    ∙ (ap (λ (l : List ℕ). sent ++ l) (lines_step back old new (Some r) (count - (i + 1)) s
    ∙ ap (λ (l : List ℕ). l ++ lines_of back new (count - (i + 1))) (sym is)) ∙ sym (append_assoc sent line (lines_of back new (count - (i + 1))))))

-- the items that are left, one of them first
still : (back : _) (w : Walk) (count i : ℕ) (all so_far : Option Reading) → i < count
    → all ≡ first_there (last_item (answers_of back w (count - i))) so_far → all ≡ first_there (last_item (answers_of back w (count - (i + 1) + 1))) so_far
still back w count i all so_far h e = e ∙ ap (λ (n : ℕ). first_there (last_item (answers_of back w n)) so_far) (one_less count i h)

-- no line is left
no_more : (all sent rest : List ℕ) → all ≡ sent ++ rest → rest ≡ [] → sent ≡ all
no_more all sent rest e n = sym (e ∙ (ap (λ (l : List ℕ). sent ++ l) n ∙ append-nil sent))

-- the line of one more item was gathered
one_gathered :
    {W : Type 0} (writes : W → List ℕ → Result ℕ Error → W → Type 0) (r : Reading) (old mid new : Watched W) (held kept : List ℕ)
    → (items : List Reading) × AreGathered writes (map item_line items) old mid [] held → has_failed mid ≡ false
    → Gathers writes mid new held kept (item_line r) → (items : List Reading) × AreGathered writes (map item_line items) old new [] kept
one_gathered writes r old mid new held kept (items, h) fresh g =
    (items ++ r ∷ [], rw (map-append item_line items (r ∷ [])) (gathered_on writes (map item_line items) (item_line r) old mid new [] held kept h fresh g))

pub returns-in_default-clause-lines : goal.returns-in_default-clause-lines
returns-in_default-clause-lines g c =
    let (so_far, split, was, kept, made, fresh, items) = c.loop.invariant in
    let steps = subst (λ (r : Option Reading). Steps (direction c.args.back) c.loop.walk r c.neighbour.new.walk) c.in_default.is c.neighbour.ensures in
    let end = ap (lines_of c.args.back c.loop.walk) (one_less c.args.count c.loop.counter c.loop-test.true)
    ∙ lines_stop c.args.back c.loop.walk c.neighbour.new.walk (c.args.count - (c.loop.counter + 1)) steps in
    subst (IsGathered _ _ _ _) (no_more _ so_far _ split end) was

pub returns-then-has_failed-clause-lines : goal.returns-then-has_failed-clause-lines
returns-then-has_failed-clause-lines g c =
    let (so_far, split, was, kept, made, fresh, items) = c.loop.invariant in
    let steps = subst (λ (r : Option Reading). Steps (direction c.args.back) c.loop.walk r c.neighbour.new.walk) c.in-Some.is c.neighbour.ensures in
    let line = ap item_line c.show.ensures in
    gathered_part _ _ _ _ _ (so_far ++ item_line c.show.new.self) _
    (one_more _ so_far (item_line c.show.new.self) c.loop.walk c.neighbour.new.walk c.args.back c.in-Some.moment c.args.count c.loop.counter c.loop-test.true
    split steps line) (sym c.has_failed.ensures ∙ c.if-has_failed.true) (c.push_to.ensures.gathered _ so_far was)

pub loop-init : goal.loop-init
loop-init g c =
    ([], search rules, rw c.requires.nothing (nothing_gathered _ _), search rules, no_write _ _ _, c.requires.fresh, ([], (refl, c.requires.nothing)))

pub loop-preserved : goal.loop-preserved
loop-preserved g c =
    let (so_far, split, was, kept, made, fresh, items) = c.loop.invariant in
    let steps = subst (λ (r : Option Reading). Steps (direction c.args.back) c.loop.walk r c.neighbour.new.walk) c.in-Some.is c.neighbour.ensures in
    let line = ap item_line c.show.ensures in (
      so_far ++ item_line c.show.new.self,
      one_more _ so_far (item_line c.show.new.self) c.loop.walk c.neighbour.new.walk c.args.back c.in-Some.moment c.args.count c.loop.counter c.loop-test.true split
          steps line,
      c.push_to.ensures.gathered _ so_far was,
      last_more c.args.back c.loop.walk c.neighbour.new.walk c.in-Some.moment (c.args.count - (c.loop.counter + 1)) _ c.loop.last
          (still c.args.back c.loop.walk c.args.count c.loop.counter _ c.loop.last c.loop-test.true kept) steps,
      writes_on _ _ _ _ _ _ _ made c.push_to.ensures.calls,
      sym c.has_failed.ensures ∙ c.if-has_failed.false,
      one_gathered _ c.show.new.self _ _ _ _ _ items fresh c.push_to.ensures.gathers,
    )

pub returns-clause-lines : goal.returns-clause-lines
returns-clause-lines g c =
    let (so_far, split, was, kept, made, fresh, items) = c.loop.invariant in
    let none : c.args.count - c.loop.counter ≡ 0 = omega arith in
    let end = ap (lines_of c.args.back c.loop.walk) none ∙ lines_none c.args.back c.loop.walk in
    subst (IsGathered _ _ _ _) (no_more _ so_far _ split end) was

pub returns-in_default-clause-last : goal.returns-in_default-clause-last
returns-in_default-clause-last g c unmarked =
    let (so_far, split, was, kept, made, fresh, items) = c.loop.invariant in
    let steps = subst (λ (r : Option Reading). Steps (direction c.args.back) c.loop.walk r c.neighbour.new.walk) c.in_default.is c.neighbour.ensures in
    last_stop c.args.back c.loop.walk c.neighbour.new.walk (c.args.count - (c.loop.counter + 1)) _ c.loop.last
    (still c.args.back c.loop.walk c.args.count c.loop.counter _ c.loop.last c.loop-test.true kept) steps

pub returns-clause-last : goal.returns-clause-last
returns-clause-last g c unmarked =
    let (so_far, split, was, kept, made, fresh, items) = c.loop.invariant in
    last_done c.args.back c.loop.walk (c.args.count - c.loop.counter) _ c.loop.last kept (omega arith)

pub returns-then-has_failed-clause-last : goal.returns-then-has_failed-clause-last
returns-then-has_failed-clause-last c = search rules

pub returns-in_default-clause-calls : goal.returns-in_default-clause-calls
returns-in_default-clause-calls g c = let (so_far, split, was, kept, made, fresh, items) = c.loop.invariant in made

pub returns-then-has_failed-clause-calls : goal.returns-then-has_failed-clause-calls
returns-then-has_failed-clause-calls g c =
    let (so_far, split, was, kept, made, fresh, items) = c.loop.invariant in writes_on _ _ _ _ _ _ _ made c.push_to.ensures.calls

pub returns-clause-calls : goal.returns-clause-calls
returns-clause-calls g c = let (so_far, split, was, kept, made, fresh, items) = c.loop.invariant in made

pub returns-in_default-clause-gathers : goal.returns-in_default-clause-gathers
returns-in_default-clause-gathers g c = let (so_far, split, was, kept, made, fresh, items) = c.loop.invariant in items

pub returns-then-has_failed-clause-gathers : goal.returns-then-has_failed-clause-gathers
returns-then-has_failed-clause-gathers g c =
    let (so_far, split, was, kept, made, fresh, items) = c.loop.invariant in one_gathered _ c.show.new.self _ _ _ _ _ items fresh c.push_to.ensures.gathers

pub returns-clause-gathers : goal.returns-clause-gathers
returns-clause-gathers g c = let (so_far, split, was, kept, made, fresh, items) = c.loop.invariant in items

use Rattle.std.proofs.Common.{◌≡◌, ◌+◌, ◌<◌, ◌⊎◌, ℕ, length, map, set, drop, sym, ap, subst, ◌∙◌, arith}
use Rattle.std.proofs.lemmas.List.{drop-set-add, length-drop, length-map, map-set}
use Rattle.cron_agenda.specs.Inner.Words.{instant_in}
use Rattle.cron_agenda.specs.Inner.Tree.{IsBelow, IsKeptTree, IsRightAt, Places}
use Rattle.cron_agenda.proofs.TreeLemmas.{kept_set, whole}
use Rattle.cron_agenda.proofs.earliest.Earliest.set.Goals as goal

pub word_of-word-requires-clause-place : goal.word_of-word-requires-clause-place
word_of-word-requires-clause-place c =
    let size = sym (ap (λ (v : Places). length v.instants) c.self.view_is) ∙ length-map (drop c.self.inside.inner c.self.inside.words.items) instant_in in
    let front = length-drop c.self.inside.inner c.self.inside.words.items in
    let most = c.self.invariant.most in
    let within = c.requires.place in
    omega arith

pub invariant_of-self : goal.invariant_of-self
invariant_of-self c =
    let words = c.self.inside.words.items in
    let inner = c.self.inside.inner in
    let at : ℕ = inner + c.args.place in
    let size = sym (ap (λ (v : Places). length v.instants) c.self.view_is) ∙ length-map (drop inner words) instant_in in
    let within = c.requires.place in
    let less : c.args.place < length (drop inner words) = omega arith in
    let is = ap (λ l. set l at c.word_of-word.result) c.deref_mut.ensures.value in
    let same : length c.write.new.words ≡ length words = c.write.auto.words ∙ ap length c.deref_mut.ensures.value in
    let covered = c.self.invariant.covered in
    let front = length-drop inner words in
    subst (λ l. IsKeptTree l inner)
    (sym (whole c.self.inside.words.len c.write.new.words (drop (length c.write.new.words) words) (same ∙ sym c.self.inside.words.ok.0)))
    (kept_set words c.write.new.words inner c.args.place c.word_of-word.result c.self.invariant less c.word_of-word.ensures.place same
    (subst (λ l. (i : ℕ) → IsRightAt l i ⊎ IsBelow at i → IsRightAt c.write.new.words i) is c.write.ensures.right)
    (c.write.ensures.rest inner (omega arith) ∙ ap (drop inner) is))

pub returns-clause-instants : goal.returns-clause-instants
returns-clause-instants c =
    let words = c.self.inside.words.items in
    let inner = c.self.inside.inner in
    let at : ℕ = inner + c.args.place in
    let size = sym (ap (λ (v : Places). length v.instants) c.self.view_is) ∙ length-map (drop inner words) instant_in in
    let within = c.requires.place in
    let is = ap (λ l. set l at c.word_of-word.result) c.deref_mut.ensures.value in
    let same : length c.write.new.words ≡ length words = c.write.auto.words ∙ ap length c.deref_mut.ensures.value in
    let covered = c.self.invariant.covered in
    let front = length-drop inner words in
    rw (← c.self.view_is)
    (ap (λ l. map instant_in (drop inner l))
    (whole c.self.inside.words.len c.write.new.words (drop (length c.write.new.words) words) (same ∙ sym c.self.inside.words.ok.0))
    ∙ ap (map instant_in) (c.write.ensures.rest inner (omega arith) ∙ ap (drop inner) is ∙ drop-set-add inner words c.args.place c.word_of-word.result)
    ∙ map-set instant_in (drop inner words) c.args.place c.word_of-word.result ∙ ap (set (map instant_in (drop inner words)) c.args.place) c.word_of-word.ensures.instant)

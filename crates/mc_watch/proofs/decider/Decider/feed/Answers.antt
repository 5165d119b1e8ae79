use Rattle.std.proofs.Common.{◌≡◌, ℕ, List, ◌∷◌, length, Option, true, false, ap, sym, ◌∙◌, subst}
use Rattle.std.specs.Vec.{with_items}
use Rattle.std.proofs.lemmas.List.{with_items_is}
use Rattle.mc_watch.specs.declared.watched.Watched.{Watched}
use Rattle.mc_watch.specs.Remembered.{IsRemembered, all_noted, leader_of}
use Rattle.mc_watch.proofs.RememberedRules.{leaders_two, length_noted, refused_by, remembered_more, state_more}
use Rattle.mc_watch.proofs.decider.Decider.feed.Goals as goal

pub returns-then-has_fallen-clause-refused : goal.returns-then-has_fallen-clause-refused
returns-then-has_fallen-clause-refused c =
    let len = c.len-count.ensures ∙ c.self.inside.classes.ok.0 in
    refused_by c.self.inside.classes.items c.self.inside.leaders c.self.inside.fed.windows c.args.evictions.now c.args.pages.now c.args.free.now c.self.invariant
    (c.if-evictions-count.false ∙ len) (c.if-pages-count.false ∙ len) (c.if-free-count.false ∙ len) true c.deref.result.now c.args.self.now
    c.if-has_fallen.ensures c.deref.ensures.value c.self.view_is

pub returns-clause-accepted : goal.returns-clause-accepted
returns-clause-accepted c =
    let len = c.len-count.ensures ∙ c.self.inside.classes.ok.0 in
    refused_by c.self.inside.classes.items c.self.inside.leaders c.self.inside.fed.windows c.args.evictions.now c.args.pages.now c.args.free.now c.self.invariant
    (c.if-evictions-count.false ∙ len) (c.if-pages-count.false ∙ len) (c.if-free-count.false ∙ len) false c.deref.result.now c.args.self.now
    c.if-has_fallen.ensures c.deref.ensures.value c.self.view_is

pub invariant_of-self : goal.invariant_of-self
invariant_of-self c =
    let len = c.len-count.ensures ∙ c.self.inside.classes.ok.0 in
    let le = c.if-evictions-count.false ∙ len in
    let lg = c.if-pages-count.false ∙ len in
    let lf = c.if-free-count.false ∙ len in
    let noted : List Watched = all_noted c.self.inside.classes.items c.args.evictions.now c.args.pages.now c.args.free.now in
    let is : c.note_all.new.classes ≡ noted
    = c.note_all.ensures ∙ ap (λ (cs : List Watched). all_noted cs c.args.evictions.now c.args.pages.now c.args.free.now) c.deref_mut.ensures.value in
    let count : length c.note_all.new.classes ≡ c.self.inside.classes.len
    = ap (λ (cs : List Watched). length cs) is
    ∙ length_noted c.self.inside.classes.items c.self.inside.leaders c.self.inside.fed.windows c.args.evictions.now c.args.pages.now c.args.free.now c.self.invariant le lg lf
    ∙ sym c.self.inside.classes.ok.0 in
    let now : (with_items c.self.inside.classes c.note_all.new.classes).items ≡ c.note_all.new.classes
    = with_items_is c.self.inside.classes c.note_all.new.classes count in
    subst (λ (two : List (Option ℕ)). IsRemembered (with_items c.self.inside.classes c.note_all.new.classes).items (c.leader.result ∷ two) c.then-self-inside.result.windows)
    (leaders_two c.self.inside.classes.items c.self.inside.leaders c.self.inside.fed.windows c.self.invariant)
    (remembered_more c.self.inside.classes.items c.self.inside.leaders c.self.inside.fed.windows c.args.evictions.now c.args.pages.now c.args.free.now c.self.invariant le lg lf
    (with_items c.self.inside.classes c.note_all.new.classes).items c.leader.result c.then-self-inside.result.windows (now ∙ is)
    (c.leader.ensures ∙ ap leader_of c.deref-2.ensures.value) c.then-self-inside.ensures)

pub returns-clause-noted : goal.returns-clause-noted
returns-clause-noted c =
    let len = c.len-count.ensures ∙ c.self.inside.classes.ok.0 in
    let le = c.if-evictions-count.false ∙ len in
    let lg = c.if-pages-count.false ∙ len in
    let lf = c.if-free-count.false ∙ len in
    let noted : List Watched = all_noted c.self.inside.classes.items c.args.evictions.now c.args.pages.now c.args.free.now in
    let is : c.note_all.new.classes ≡ noted
    = c.note_all.ensures ∙ ap (λ (cs : List Watched). all_noted cs c.args.evictions.now c.args.pages.now c.args.free.now) c.deref_mut.ensures.value in
    let count : length c.note_all.new.classes ≡ c.self.inside.classes.len
    = ap (λ (cs : List Watched). length cs) is
    ∙ length_noted c.self.inside.classes.items c.self.inside.leaders c.self.inside.fed.windows c.args.evictions.now c.args.pages.now c.args.free.now c.self.invariant le lg lf
    ∙ sym c.self.inside.classes.ok.0 in
    let now : (with_items c.self.inside.classes c.note_all.new.classes).items ≡ c.note_all.new.classes
    = with_items_is c.self.inside.classes c.note_all.new.classes count in
    state_more c.self.inside.classes.items c.self.inside.leaders c.self.inside.fed.windows c.args.evictions.now c.args.pages.now c.args.free.now c.self.invariant le lg lf
    (with_items c.self.inside.classes c.note_all.new.classes).items c.then-self-inside.result.windows c.args.self.now (now ∙ is) c.then-self-inside.ensures c.self.view_is

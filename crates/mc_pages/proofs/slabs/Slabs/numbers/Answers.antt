use Rattle.std.proofs.Common.{ℕ, ◌-◌, length, refl, sym, ap, ap₂, ◌∙◌, subst, arith}
use Rattle.mc_pages.specs.declared.numbers.Numbers.{Numbers}
use Rattle.mc_pages.specs.declared.rows.ListName.TheVariants.{Free}
use Rattle.mc_pages.specs.ClassState.{ClassState, numbers_of}
use Rattle.mc_pages.specs.SlabState.{SlabState, HasClass, class_at}
use Rattle.mc_pages.specs.InOrder.{slabs_of}
use Rattle.mc_pages.proofs.RoomySlabs.{length-classes, IsPlace-class, lists_at, read_state}
use Rattle.mc_pages.proofs.Roomy.{same_state, accounted_there}
use Rattle.mc_pages.proofs.slabs.Slabs.numbers.Goals as goal

pub index-slab-requires : goal.index-slab-requires
index-slab-requires c =
    let is = subst (λ (s : SlabState). HasClass s c.args.class) (sym (same_state c.self.view_is)) c.requires in
    omega (arith, is.0, length-classes c.self.inside c.args.class is)

pub length-requires : goal.length-requires
length-requires c =
    let is = subst (λ (s : SlabState). HasClass s c.args.class) (sym (same_state c.self.view_is)) c.requires in
    (IsPlace-class c.self.inside c.args.class _ c.self.invariant is refl).0

pub returns-clause-numbers : goal.returns-clause-numbers
returns-clause-numbers c =
    let is = subst (λ (s : SlabState). HasClass s c.args.class) (sym (same_state c.self.view_is)) c.requires in
    let read = read_state c.self.inside c.args.class _ _ is refl c.index-slab.ensures in
    let pages = c.page_count.ensures ∙ ap (λ (class : ClassState). length class.pages) read in
    let free = c.length.ensures ∙ (c.self.invariant.linked.long (Free (c.args.class - 1)) ∙ ap length (lists_at c.self.inside c.args.class _ is refl).0) in
    let evictions = c.evictions.ensures ∙ ap (λ (class : ClassState). class.evictions) read in
    let made : ℕ → ℕ → ℕ → Numbers = λ pages free evictions. record { pages = pages; free = free; evictions = evictions } in
    ap₂ (λ (p f : ℕ). made p f c.evictions.result) pages free
    ∙ (ap (λ (e : ℕ). record (numbers_of (class_at (slabs_of c.self.inside) c.args.class)) { evictions = e }) evictions
    ∙ ap (λ (s : SlabState). numbers_of (class_at s c.args.class)) (same_state c.self.view_is))

pub returns-clause-accounted : goal.returns-clause-accounted
returns-clause-accounted c = accounted_there c.self.inside c.self.view_is c.self.invariant

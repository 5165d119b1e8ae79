use Rattle.std.proofs.Common.{◌≡◌, ◌<◌, ap, sym, ◌∙◌, Some, None, false, length, arith, rules}
use Rattle.mc_pages.specs.SlabState.{HasClass, class_at}
use Rattle.mc_pages.specs.Accounted.{places_in}
use Rattle.test_pages.proofs.Looked.{can_pass_looked, moving_class}
use Rattle.test_pages.proofs.Sized.{sized_class}
use Rattle.test_pages.proofs.tests.pages.driven.Driven.can_pass.Goals as goal

pub returns-else-holds_up : goal.returns-else-holds_up
returns-else-holds_up c unlisted =
    let runs : c.args.self.now.slabs.state.moving ≡ Some c.in-Some.moving = sym c.moving.ensures.moving ∙ c.in-Some.is in
    let is : HasClass c.args.self.now.slabs.state c.in-Some.moving.src = moving_class c.args.self.now.slabs.state c.in-Some.moving c.moving.ensures.accounted runs in
    let whole : c.args.self.now.slabs.state.uncut ≡ None = search rules in
    let within : c.in-Some.moving.at < (class_at c.args.self.now.slabs.state c.in-Some.moving.src).per_page = search (rules, sized_class) in
    let found : c.is_listed.result ≡ Some false = search rules in (
      c.in-Some.moving,
      can_pass_looked c.args.self.now.slabs.state c.args.found c.in-Some.moving c.moving.ensures.accounted runs whole within
          (λ _. ap (places_in c.args.self.now.slabs.state c.in-Some.moving.src) (sym c.chunk_at.ensures) ∙ c.is_listed.ensures.unlisted found),
    )

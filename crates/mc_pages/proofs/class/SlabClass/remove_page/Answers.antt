use Rattle.std.proofs.Common.{◌==◌, ℕ, List, not, ap, ◌∙◌, rules}
use Rattle.std.proofs.lemmas.Fn.{filter_same}
use Rattle.mc_pages.specs.ClassState.{without_page}
use Rattle.mc_pages.specs.Room.{RoomyClass, in_state, roomy_of}
use Rattle.mc_pages.proofs.class.SlabClass.remove_page.Goals as goal

pub returns : goal.returns
returns c =
    let left = filter_same _ (λ (p : ℕ). not (p == c.args.page)) _ (λ x b f t. search rules) _ _ c.retain.ensures.filtered in
    ap (λ (pages : List ℕ). in_state (roomy_of c.self.inside) (record (roomy_of c.self.inside).state { pages = pages })) left
    ∙ ap (λ (class : RoomyClass). in_state class (without_page class.state c.args.page)) c.self.view_is

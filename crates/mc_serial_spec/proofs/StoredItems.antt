-- What a set leaves where it found a chunk, whether a page is asked for or not.
use Rattle.std.proofs.Common.{◌≡◌, ◌≢◌, ℕ, List, Bool, true, false, Some, refl, ap, sym, ◌∙◌, arith}
use Rattle.std.specs.Prelude.{◌==◌, ◌&&◌, if◌then◌else◌}
use Rattle.std.proofs.lemmas.Bool.Decides.{nat_tests}
use Rattle.mc_pages.specs.declared.ids.ChunkId.{ChunkId}
use Rattle.mc_pages.specs.Changes.{after_pop}
use Rattle.mc_serial_spec.specs.Automove.{with_asked_page}
use Rattle.mc_serial_spec.specs.Item.{new_item}
use Rattle.mc_serial_spec.specs.Items.{unlinked_items, with_item}
use Rattle.mc_serial_spec.specs.Lines.{set_outcome, machine_with_item}
use Rattle.mc_serial_spec.specs.Machine.{Machine}
use Rattle.mc_serial_spec.specs.Supply.{asks_for_page, needs_eviction, machine_after_supply, supply}
use Rattle.mc_serial_spec.proofs.Modes.{mode-supplied}

module _ (old found unlinked put : Machine) (class key : ℕ) (words : List ℕ) (chunk : ChunkId)
    (found_is : found ≡ machine_after_supply old class) (unlinked_is : unlinked ≡ record found { items = unlinked_items found.items key })
    (put_is : put ≡ record unlinked { slabs = after_pop unlinked.slabs class; items = with_item unlinked.items chunk (new_item key words) })
    (head : supply old class ≡ Some chunk) where
  stored_there : put ≡ machine_with_item (machine_after_supply old class) class key words chunk
  stored_there = rw (put_is, unlinked_is, found_is) refl

  mode_there : put.slabs.automove ≡ old.slabs.automove
  mode_there = ap (λ (m : Machine). m.slabs.automove) stored_there ∙ mode-supplied old class

  asked : (b : Bool) → asks_for_page old class ≡ b
      → (set_outcome (machine_after_supply old class) class key words (asks_for_page old class) (supply old class)).machine ≡ (if b then with_asked_page put class else put)
  asked b is = rw (head, is, stored_there) refl

  asks : (a b : Bool) → needs_eviction old class ≡ a → (old.slabs.automove == 2) ≡ b → asks_for_page old class ≡ (a && b)
  asks a b evicted mode = rw (evicted, mode) refl

  pub stored_asking : (new : Machine) → needs_eviction old class ≡ true → put.slabs.automove ≡ 2 → new ≡ with_asked_page put class
      → new ≡ (set_outcome (machine_after_supply old class) class key words (asks_for_page old class) (supply old class)).machine
  stored_asking new evicted mode is =
      let two : (old.slabs.automove == 2) ≡ true = grind (arith, nat_tests, mode_there) in
      is ∙ sym (asked true (asks true true evicted two))

  pub stored_in_mode : needs_eviction old class ≡ true → put.slabs.automove ≢ 2
      → put ≡ (set_outcome (machine_after_supply old class) class key words (asks_for_page old class) (supply old class)).machine
  stored_in_mode evicted mode =
      let other : (old.slabs.automove == 2) ≡ false = grind (arith, nat_tests, mode_there) in
      sym (asked false (asks true false evicted other))

  pub stored_quietly : needs_eviction old class ≡ false → put ≡ (set_outcome (machine_after_supply old class) class key words (asks_for_page old class) (supply old class)).machine
  stored_quietly none = sym (asked false (asks false (old.slabs.automove == 2) none refl))

-- The entries of the ledger that aren't recorded, and what they left of each page.
use Rattle.std.proofs.Common.{◌≡◌, ◌∷◌, ◌++◌, [], ℕ, List, refl, ap₂, ◌∙◌}
use Rattle.mc_pages.specs.declared.ledger.BasePage.{BasePage}
use Rattle.mc_pages.specs.declared.ledger.Entry.{Entry}
use Rattle.mc_pages.specs.Base.{Entries, pages_after_entries, left_by_one}

-- all entries with one more, and so much room
abbrev pub told_entries : Entries → Entry → ℕ → Entries
told_entries entries entry room = record entries { all = entries.all ++ entry ∷ []; room = room }

-- entries of two parts leave what the last ones leave of what the first ones left
pub left_by-parts : (pages : List BasePage) (first last : List Entry) → pages_after_entries pages (first ++ last) ≡ pages_after_entries (pages_after_entries pages first) last
left_by-parts pages [] last = refl
left_by-parts pages (entry ∷ first) last = left_by-parts (left_by_one pages entry) first last

-- entries that are equal in each part are equal
pub same_entries : (a b : Entries) → a.all ≡ b.all → a.trimmed ≡ b.trimmed → a.pages ≡ b.pages → a.room ≡ b.room → a ≡ b
same_entries a b all trimmed pages room =
    ap₂ (λ (es : List Entry) (n : ℕ). record { all = es; trimmed = n; pages = a.pages; room = a.room }) all trimmed
    ∙ ap₂ (λ (n m : ℕ). record { all = b.all; trimmed = b.trimmed; pages = n; room = m }) pages room

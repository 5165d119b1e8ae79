-- What a worker's line does by its hand, as the reply reports it.
use Rattle.std.specs.Prelude.{◌≡◌, ◌≤◌, ℕ, List, [], ◌∷◌, ◌++◌, length, All, true, false, Some, None, Option}
use Rattle.std.specs.Option.{option_map}
use Rattle.mc_classes.specs.Limits.{most_refs}
use Rattle.mc_stripe.specs.declared.history.Call.TheVariants as call
use Rattle.mc_words.specs.declared.hand.Hand.{Hand}
use Rattle.mc_words.specs.hand.Arenas.{view}
use Rattle.mc_words.specs.hand.Observers.{hand_number}
use Rattle.mc_words.specs.hand.View.{Setup, View}
use Rattle.mc_words.specs.hand.Views.{chunk_released}
use Rattle.mc_items.specs.declared.refs.Ref.{Ref}
use Rattle.mc_items.specs.declared.setting.SetError.TheVariants as refused
use Rattle.mc_items.specs.Calls.{Deletes, FindsNone, Touches}
use Rattle.mc_items.specs.ItemRefs.{item_chunk, item_len, item_stamp, item_words}
use Rattle.mc_items.specs.OnKeys.{ActsOn, Gets, RecordsGet, RecordsOn, stripe_of_key}
use Rattle.mc_items.specs.Reading.{words_seen}
use Rattle.mc_items.specs.Setting.{RefusesSet, SetsItem, RecordsSet}
use Rattle.mc_items.specs.declared.comparing.Expected.TheVariants.{Anything}
use Rattle.mc_serial_spec.specs.Item.{counting_words}
use Rattle.mc_script.specs.declared.command.Command.{Command}
use Rattle.mc_script.specs.declared.command.Command.TheVariants as command
use Rattle.mc_workers.specs.declared.reply.Reply.{Reply}
use Rattle.mc_workers.specs.declared.reply.Reply.TheVariants.{Stored, TooLarge, NoRoom, WornOut, Value, Held, Dropped, Deleted, Touched, NotFound, NotHeld, TooManyRefs}
use Rattle.mc_workers.specs.Kept.{KeptReference, IsLastOf, IsOfOther, hold_of}

-- the words were stored under the key, and the hand's own calls have the set with its stamp
abbrev pub StoresWords : ℕ → List ℕ → Hand → Hand → Type 0
StoresWords key words before now =
    (stamp : ℕ) × SetsItem Anything (hand_number before) key stamp words (view before) (view now) × RecordsSet (hand_number before) key stamp (view before) (view now)

-- a set, by its reply
abbrev pub AnswersSet : ℕ → List ℕ → Reply → Hand → Hand → Type 0
AnswersSet key words Stored before now = StoresWords key words before now
AnswersSet key words TooLarge before now = RefusesSet (hand_number before) key words refused.TooLarge (view before) (view now)
AnswersSet key words NoRoom before now = RefusesSet (hand_number before) key words refused.NoRoom (view before) (view now)
AnswersSet key words WornOut before now = RefusesSet (hand_number before) key words refused.WornOut (view before) (view now)
AnswersSet key words other before now = ⊥

-- the key was looked up, and the hand got this reference to its item, or none; the hand's own calls have the get with the item's stamp
abbrev pub FindsForLine : Setup → ℕ → Option Ref → Hand → Hand → Type 0
FindsForLine setup key found before now =
    Gets setup key found before now × RecordsOn setup key (λ number. call.Get number key (option_map item_stamp found)) before now

-- the hand holds 255 chunks or more, and did nothing
abbrev pub HoldsMost : Hand → Hand → Type 0
HoldsMost before now = (most_refs ≤ length (view before).row.holdings) × (view now ≡ view before)

-- the item that is referred to was read whole, and the reference given up
abbrev pub read_and_released : Ref → View → View
read_and_released item view = chunk_released (item_chunk item) (words_seen (item_chunk item) 3 (item_len item) view)

-- the key's item was found, these are its words, and it was released again
pub record ReadsItem (setup : Setup) (key : ℕ) (words : List ℕ) (before now : Hand) : Type 0 where
  pub item : Ref
  pub got : Hand
  pub finds : FindsForLine setup key (Some item) before got
  pub are : words ≡ item_words (view got) item
  pub released : view now ≡ read_and_released item (view got)

-- a get, by its reply
abbrev pub AnswersGet : Setup → ℕ → Reply → Hand → Hand → Type 0
AnswersGet setup key (Value words) before now = ReadsItem setup key words.items before now
AnswersGet setup key NotFound before now = FindsForLine setup key None before now
AnswersGet setup key TooManyRefs before now = HoldsMost before now
AnswersGet setup key other before now = ⊥

-- the key's item was found, and is held from here on, behind all other holds
pub record HoldsItem (setup : Setup) (key : ℕ) (held : List KeptReference) (before : Hand) (left : List KeptReference) (now : Hand) : Type 0 where
  pub item : Ref
  pub finds : FindsForLine setup key (Some item) before now
  pub left_is : left ≡ held ++ hold_of (view now) item ∷ []

-- a hold, by its reply
abbrev pub AnswersHold : Setup → ℕ → Reply → List KeptReference → Hand → List KeptReference → Hand → Type 0
AnswersHold setup key Held held before left now = HoldsItem setup key held before left now
AnswersHold setup key NotFound held before left now = FindsForLine setup key None before now × (left ≡ held)
AnswersHold setup key TooManyRefs held before left now = HoldsMost before now × (left ≡ held)
AnswersHold setup key other held before left now = ⊥

-- the last hold of the key was given back; the words are those that were there when the hold was taken
pub record DropsLast (key : ℕ) (words : List ℕ) (held : List KeptReference) (before : Hand) (left : List KeptReference) (now : Hand) : Type 0 where
  pub last : KeptReference
  pub is : IsLastOf key held last left
  pub are : words ≡ last.words
  pub released : view now ≡ read_and_released last.item (view before)

-- a drop, by its reply
abbrev pub AnswersDrop : ℕ → Reply → List KeptReference → Hand → List KeptReference → Hand → Type 0
AnswersDrop key (Dropped words) held before left now = DropsLast key words.items held before left now
AnswersDrop key NotHeld held before left now = All (IsOfOther key) held × (left ≡ held) × (view now ≡ view before)
AnswersDrop key other held before left now = ⊥

-- a delete, by its reply
abbrev pub AnswersDelete : Setup → ℕ → Reply → Hand → Hand → Type 0
AnswersDelete setup key Deleted before now =
    ActsOn setup key (λ number stripe. Deletes number stripe key true) before now × RecordsOn setup key (λ number. call.Delete number key true) before now
AnswersDelete setup key NotFound before now =
    ActsOn setup key (λ number stripe. Deletes number stripe key false) before now × RecordsOn setup key (λ number. call.Delete number key false) before now
AnswersDelete setup key other before now = ⊥

-- a touch, by its reply
abbrev pub AnswersTouch : Setup → ℕ → Reply → Hand → Hand → Type 0
AnswersTouch setup key Touched before now =
    Touches (hand_number before) (stripe_of_key setup key) key (view before) (view now) × RecordsGet setup key true before now
AnswersTouch setup key NotFound before now =
    ActsOn setup key (λ number stripe. FindsNone number stripe key) before now × RecordsGet setup key false before now
AnswersTouch setup key other before now = ⊥

-- a worker's line, by its reply: what it did by its hand, and the holds that it left of these
abbrev pub Serves : Setup → Command → Reply → List KeptReference → Hand → List KeptReference → Hand → Type 0
Serves setup (command.Set worker key count base) reply held before left now = AnswersSet key (counting_words base count) reply before now × (left ≡ held)
Serves setup (command.Get worker key) reply held before left now = AnswersGet setup key reply before now × (left ≡ held)
Serves setup (command.Hold worker key) reply held before left now = AnswersHold setup key reply held before left now
Serves setup (command.Drop worker key) reply held before left now = AnswersDrop key reply held before left now
Serves setup (command.Delete worker key) reply held before left now = AnswersDelete setup key reply before now × (left ≡ held)
Serves setup (command.Touch worker key) reply held before left now = AnswersTouch setup key reply before now × (left ≡ held)
Serves setup other reply held before left now = ⊥

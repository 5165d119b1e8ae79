-- Worked examples of the plain machine, which the prover computes.
use Rattle.std.specs.Prelude.{◌≡◌, ℕ, true, false, List, [], ◌∷◌, ◌++◌, codes, map, Some, None}
use Rattle.std.specs.List.{range_with_len}
use Rattle.mc_classes.specs.Classes.{Classes}
use Rattle.mc_script.specs.declared.command.Command.{Command}
use Rattle.mc_script.specs.declared.command.Command.TheVariants.{Set, Get, Hold, Drop, Delete, Touch, Reassign, Automove, Window, Turn, Stats, StatsSlabs}
use Rattle.mc_serial_spec.specs.Machine.{fresh_machine}
use Rattle.mc_serial_spec.specs.Lines.{replies_to}
use Rattle.mc_serial_laws.specs.Answered.{AnsweredCommand, answers, last_words, held_words}
use Rattle.mc_serial_laws.specs.Stays.{holds_now, is_seen}

-- pages of 1024 bytes, four of them, and four classes
abbrev pub worked_classes : Classes
worked_classes = record { page = 1024; limit = 4096; sizes = 48 ∷ 96 ∷ 192 ∷ 512 ∷ [] }

-- what is replied to these commands, with at most 64 chunks a turn
abbrev pub replies : List Command → List ℕ
replies commands = replies_to (fresh_machine worked_classes 64 0) commands

-- the commands that set `count` items of `words` words each, from this key on
abbrev pub set_commands : ℕ → ℕ → ℕ → ℕ → List Command
set_commands key count words base = map (λ k. Set 1 k words base) (range_with_len key count)

-- two sets, a delete and the statistics
abbrev pub FirstPath : Type 0
FirstPath = replies (Set 1 1 3 7 ∷ Set 1 2 3 9 ∷ Delete 1 2 ∷ StatsSlabs ∷ [])
    ≡ codes "STORED 1\r\nSTORED 2\r\nDELETED 2\r\nSTAT 1:chunk_size 48\r\nSTAT 1:chunks_per_page 21\r\nSTAT 1:total_pages 1\r\nSTAT 1:total_chunks 21\r\nSTAT 1:used_chunks 1\r\nSTAT 1:free_chunks 20\r\nSTAT active_slabs 1\r\nSTAT total_malloced 1024\r\nEND\r\n"

-- a deleted item makes room
abbrev pub DeadMakesRoom : Type 0
DeadMakesRoom = replies (set_commands 1 8 61 0 ++ Delete 1 3 ∷ Set 1 9 61 0 ∷ [])
    ≡ codes "STORED 1\r\nSTORED 2\r\nSTORED 3\r\nSTORED 4\r\nSTORED 5\r\nSTORED 6\r\nSTORED 7\r\nSTORED 8\r\nDELETED 3\r\nSTORED 9\r\n"

-- a full class evicts its oldest item, and a class without a page gets its first beyond the limit
abbrev pub FullClassEvicts : Type 0
FullClassEvicts = replies (set_commands 1 9 61 0 ++ Get 1 1 ∷ Touch 1 2 ∷ Set 1 10 3 0 ∷ [])
    ≡ codes "STORED 1\r\nSTORED 2\r\nSTORED 3\r\nSTORED 4\r\nSTORED 5\r\nSTORED 6\r\nSTORED 7\r\nSTORED 8\r\nSTORED 9\r\nNOT_FOUND 1\r\nTOUCHED 2\r\nSTORED 10\r\n"

-- beyond the limit a class gets its first page alone: its 22nd item of 48 bytes evicts the first
abbrev pub FirstPageAlone : Type 0
FirstPageAlone = replies (set_commands 1 8 61 0 ++ set_commands 101 22 3 0 ++ Get 1 101 ∷ Touch 1 102 ∷ StatsSlabs ∷ [])
    ≡ codes "STORED 1\r\nSTORED 2\r\nSTORED 3\r\nSTORED 4\r\nSTORED 5\r\nSTORED 6\r\nSTORED 7\r\nSTORED 8\r\nSTORED 101\r\nSTORED 102\r\nSTORED 103\r\nSTORED 104\r\nSTORED 105\r\nSTORED 106\r\nSTORED 107\r\nSTORED 108\r\nSTORED 109\r\nSTORED 110\r\nSTORED 111\r\nSTORED 112\r\nSTORED 113\r\nSTORED 114\r\nSTORED 115\r\nSTORED 116\r\nSTORED 117\r\nSTORED 118\r\nSTORED 119\r\nSTORED 120\r\nSTORED 121\r\nSTORED 122\r\nNOT_FOUND 101\r\nTOUCHED 102\r\nSTAT 1:chunk_size 48\r\nSTAT 1:chunks_per_page 21\r\nSTAT 1:total_pages 1\r\nSTAT 1:total_chunks 21\r\nSTAT 1:used_chunks 21\r\nSTAT 1:free_chunks 0\r\nSTAT 4:chunk_size 512\r\nSTAT 4:chunks_per_page 2\r\nSTAT 4:total_pages 4\r\nSTAT 4:total_chunks 8\r\nSTAT 4:used_chunks 8\r\nSTAT 4:free_chunks 0\r\nSTAT active_slabs 2\r\nSTAT total_malloced 5120\r\nEND\r\n"

-- a page goes to another class, and its items are evicted
abbrev pub PageToAnotherClass : Type 0
PageToAnotherClass = replies (set_commands 1 8 61 0 ++ Reassign (Some 4) 1 ∷ Turn 1 ∷ Stats ∷ StatsSlabs ∷ [])
    ≡ codes "STORED 1\r\nSTORED 2\r\nSTORED 3\r\nSTORED 4\r\nSTORED 5\r\nSTORED 6\r\nSTORED 7\r\nSTORED 8\r\nOK\r\nTURN FINISHED 2 0 2 0 0\r\nSTAT slab_global_page_pool 0\r\nSTAT slab_reassign_running 0\r\nSTAT slabs_moved 1\r\nSTAT slab_reassign_rescues 0\r\nSTAT slab_reassign_evictions_nomem 2\r\nSTAT slab_reassign_busy_items 0\r\nEND\r\nSTAT 1:chunk_size 48\r\nSTAT 1:chunks_per_page 21\r\nSTAT 1:total_pages 1\r\nSTAT 1:total_chunks 21\r\nSTAT 1:used_chunks 0\r\nSTAT 1:free_chunks 21\r\nSTAT 4:chunk_size 512\r\nSTAT 4:chunks_per_page 2\r\nSTAT 4:total_pages 3\r\nSTAT 4:total_chunks 6\r\nSTAT 4:used_chunks 6\r\nSTAT 4:free_chunks 0\r\nSTAT active_slabs 2\r\nSTAT total_malloced 4096\r\nEND\r\n"

-- an item of the moving page is rescued into a dead chunk
abbrev pub RescueIntoDead : Type 0
RescueIntoDead = replies (set_commands 1 8 61 0 ++ Delete 1 8 ∷ Reassign (Some 4) 1 ∷ Turn 1 ∷ Touch 1 2 ∷ Touch 1 1 ∷ [])
    ≡ codes "STORED 1\r\nSTORED 2\r\nSTORED 3\r\nSTORED 4\r\nSTORED 5\r\nSTORED 6\r\nSTORED 7\r\nSTORED 8\r\nDELETED 8\r\nOK\r\nTURN FINISHED 2 1 1 0 0\r\nTOUCHED 2\r\nNOT_FOUND 1\r\n"

-- a held item holds up a move
abbrev pub BusyItem : Type 0
BusyItem = replies (set_commands 1 8 22 100 ++ Hold 1 1 ∷ Reassign (Some 4) 1 ∷ Turn 1 ∷ Stats ∷ Reassign (Some 4) 2 ∷ Drop 1 1 ∷ Turn 1 ∷ Turn 1 ∷ [])
    ≡ codes "STORED 1\r\nSTORED 2\r\nSTORED 3\r\nSTORED 4\r\nSTORED 5\r\nSTORED 6\r\nSTORED 7\r\nSTORED 8\r\nHELD 1\r\nOK\r\nTURN WENT 1 0 1 1 0\r\nSTAT slab_global_page_pool 0\r\nSTAT slab_reassign_running 1\r\nSTAT slabs_moved 0\r\nSTAT slab_reassign_rescues 0\r\nSTAT slab_reassign_evictions_nomem 1\r\nSTAT slab_reassign_busy_items 1\r\nEND\r\nBUSY\r\nDROPPED 1 22 100 101 102 103 104 105 106 107 108 109 110 111 112 113 114 115 116 117 118 119 120 121\r\nTURN FINISHED 1 0 1 0 0\r\nTURN IDLE 0 0 0 0 0\r\n"

-- why no page begins to move
abbrev pub AnswersOfReassign : Type 0
AnswersOfReassign = replies (Set 1 1 61 0 ∷ Reassign (Some 4) 4 ∷ Reassign (Some 0) 0 ∷ Reassign (Some 9) 1 ∷ Reassign (Some 0) 1 ∷ Reassign (Some 4) 9 ∷ Reassign None 1 ∷ Reassign (Some 4) 1 ∷ [])
    ≡ codes "STORED 1\r\nSAME\r\nSAME\r\nBADCLASS\r\nBADCLASS\r\nBADCLASS\r\nBADCLASS\r\nNOSPARE\r\n"

-- a page goes into the pool, and from there to another class
abbrev pub PageThroughThePool : Type 0
PageThroughThePool = replies (set_commands 1 4 61 0 ++ Reassign (Some 4) 0 ∷ Turn 1 ∷ Stats ∷ StatsSlabs ∷ Set 1 9 3 0 ∷ Stats ∷ StatsSlabs ∷ [])
    ≡ codes "STORED 1\r\nSTORED 2\r\nSTORED 3\r\nSTORED 4\r\nOK\r\nTURN FINISHED 2 0 2 0 0\r\nSTAT slab_global_page_pool 1\r\nSTAT slab_reassign_running 0\r\nSTAT slabs_moved 1\r\nSTAT slab_reassign_rescues 0\r\nSTAT slab_reassign_evictions_nomem 2\r\nSTAT slab_reassign_busy_items 0\r\nEND\r\nSTAT 4:chunk_size 512\r\nSTAT 4:chunks_per_page 2\r\nSTAT 4:total_pages 1\r\nSTAT 4:total_chunks 2\r\nSTAT 4:used_chunks 2\r\nSTAT 4:free_chunks 0\r\nSTAT active_slabs 1\r\nSTAT total_malloced 2048\r\nEND\r\nSTORED 9\r\nSTAT slab_global_page_pool 0\r\nSTAT slab_reassign_running 0\r\nSTAT slabs_moved 1\r\nSTAT slab_reassign_rescues 0\r\nSTAT slab_reassign_evictions_nomem 2\r\nSTAT slab_reassign_busy_items 0\r\nEND\r\nSTAT 1:chunk_size 48\r\nSTAT 1:chunks_per_page 21\r\nSTAT 1:total_pages 1\r\nSTAT 1:total_chunks 21\r\nSTAT 1:used_chunks 1\r\nSTAT 1:free_chunks 20\r\nSTAT 4:chunk_size 512\r\nSTAT 4:chunks_per_page 2\r\nSTAT 4:total_pages 1\r\nSTAT 4:total_chunks 2\r\nSTAT 4:used_chunks 2\r\nSTAT 4:free_chunks 0\r\nSTAT active_slabs 2\r\nSTAT total_malloced 2048\r\nEND\r\n"

-- two moves whose source is picked
abbrev pub TwoMovesByThePick : Type 0
TwoMovesByThePick = replies (set_commands 1 4 61 0 ++ set_commands 11 6 20 0 ++ Reassign None 1 ∷ Turn 1 ∷ Reassign None 1 ∷ Turn 1 ∷ Stats ∷ [])
    ≡ codes "STORED 1\r\nSTORED 2\r\nSTORED 3\r\nSTORED 4\r\nSTORED 11\r\nSTORED 12\r\nSTORED 13\r\nSTORED 14\r\nSTORED 15\r\nSTORED 16\r\nOK\r\nTURN FINISHED 5 4 1 0 0\r\nOK\r\nTURN FINISHED 2 0 2 0 0\r\nSTAT slab_global_page_pool 0\r\nSTAT slab_reassign_running 0\r\nSTAT slabs_moved 2\r\nSTAT slab_reassign_rescues 4\r\nSTAT slab_reassign_evictions_nomem 3\r\nSTAT slab_reassign_busy_items 0\r\nEND\r\n"

-- an item that was touched is not the oldest any more
abbrev pub TouchedIsKept : Type 0
TouchedIsKept = replies (set_commands 1 8 61 0 ++ Touch 1 1 ∷ Set 1 9 61 0 ∷ Get 1 2 ∷ Touch 1 1 ∷ [])
    ≡ codes "STORED 1\r\nSTORED 2\r\nSTORED 3\r\nSTORED 4\r\nSTORED 5\r\nSTORED 6\r\nSTORED 7\r\nSTORED 8\r\nTOUCHED 1\r\nSTORED 9\r\nNOT_FOUND 2\r\nTOUCHED 1\r\n"

-- held items are passed over
abbrev pub HeldIsKept : Type 0
HeldIsKept = replies (set_commands 1 8 61 0 ++ Hold 1 1 ∷ Hold 1 2 ∷ Hold 1 3 ∷ Hold 1 4 ∷ Set 1 9 61 0 ∷ Touch 1 5 ∷ [])
    ≡ codes "STORED 1\r\nSTORED 2\r\nSTORED 3\r\nSTORED 4\r\nSTORED 5\r\nSTORED 6\r\nSTORED 7\r\nSTORED 8\r\nHELD 1\r\nHELD 2\r\nHELD 3\r\nHELD 4\r\nSTORED 9\r\nNOT_FOUND 5\r\n"

-- where all candidates are held there is no room
abbrev pub TooManyHeld : Type 0
TooManyHeld = replies (set_commands 1 8 61 0 ++ Hold 1 1 ∷ Hold 1 2 ∷ Hold 1 3 ∷ Hold 1 4 ∷ Hold 1 5 ∷ Set 1 9 61 0 ∷ [])
    ≡ codes "STORED 1\r\nSTORED 2\r\nSTORED 3\r\nSTORED 4\r\nSTORED 5\r\nSTORED 6\r\nSTORED 7\r\nSTORED 8\r\nHELD 1\r\nHELD 2\r\nHELD 3\r\nHELD 4\r\nHELD 5\r\nNO_ROOM 9\r\n"

-- a hold keeps the words that were there when it was taken
abbrev pub ShadowedHold : Type 0
ShadowedHold = replies (Set 1 1 3 7 ∷ Hold 1 1 ∷ Set 1 1 3 50 ∷ Get 1 1 ∷ Drop 1 1 ∷ Drop 1 1 ∷ [])
    ≡ codes "STORED 1\r\nHELD 1\r\nSTORED 1\r\nVALUE 1 3 50 51 52\r\nDROPPED 1 3 7 8 9\r\nNOT_HELD 1\r\n"

-- with one chunk a turn, the second turn ends the move
abbrev pub OneChunkATurn : Type 0
OneChunkATurn = replies_to (fresh_machine worked_classes 1 0) (set_commands 1 8 61 0 ++ Reassign (Some 4) 1 ∷ Turn 1 ∷ Turn 1 ∷ [])
    ≡ codes "STORED 1\r\nSTORED 2\r\nSTORED 3\r\nSTORED 4\r\nSTORED 5\r\nSTORED 6\r\nSTORED 7\r\nSTORED 8\r\nOK\r\nTURN WENT 1 0 1 0 0\r\nTURN FINISHED 1 0 1 0 0\r\n"

-- in mode 2 an eviction asks for a page, and a turn later there is room again
abbrev pub EvictionAsksForAPage : Type 0
EvictionAsksForAPage = replies (Automove 2 ∷ set_commands 1 4 61 0 ++ set_commands 11 6 20 0 ++ Set 1 5 61 0 ∷ Turn 1 ∷ Set 1 6 61 0 ∷ Touch 1 2 ∷ Touch 1 1 ∷ [])
    ≡ codes "OK\r\nSTORED 1\r\nSTORED 2\r\nSTORED 3\r\nSTORED 4\r\nSTORED 11\r\nSTORED 12\r\nSTORED 13\r\nSTORED 14\r\nSTORED 15\r\nSTORED 16\r\nSTORED 5\r\nTURN FINISHED 5 4 1 0 0\r\nSTORED 6\r\nTOUCHED 2\r\nNOT_FOUND 1\r\n"

-- in mode 1 a class with more free chunks than two and a half pages have gives a page to the pool
abbrev pub PageToSpare : Type 0
PageToSpare = replies (Automove 1 ∷ set_commands 1 6 61 0 ++ map (λ key. Delete 1 key) (range_with_len 1 6) ++ Window ∷ Window ∷ Turn 1 ∷ [])
    ≡ codes "OK\r\nSTORED 1\r\nSTORED 2\r\nSTORED 3\r\nSTORED 4\r\nSTORED 5\r\nSTORED 6\r\nDELETED 1\r\nDELETED 2\r\nDELETED 3\r\nDELETED 4\r\nDELETED 5\r\nDELETED 6\r\nWINDOW 4 0 OK\r\nWINDOW 4 0 BUSY\r\nTURN FINISHED 2 0 0 0 0\r\n"

-- three windows that one class leads, while another is quiet, move a page between them
abbrev pub PageToTheLeader : Type 0
PageToTheLeader = replies (Automove 1 ∷ set_commands 11 15 20 0 ++ set_commands 1 3 61 0 ++ Window ∷ Set 1 4 61 0 ∷ Window ∷ Set 1 5 61 0 ∷ Window ∷ Turn 1 ∷ [])
    ≡ codes "OK\r\nSTORED 11\r\nSTORED 12\r\nSTORED 13\r\nSTORED 14\r\nSTORED 15\r\nSTORED 16\r\nSTORED 17\r\nSTORED 18\r\nSTORED 19\r\nSTORED 20\r\nSTORED 21\r\nSTORED 22\r\nSTORED 23\r\nSTORED 24\r\nSTORED 25\r\nSTORED 1\r\nSTORED 2\r\nSTORED 3\r\nWINDOW none\r\nSTORED 4\r\nWINDOW none\r\nSTORED 5\r\nWINDOW 3 4 OK\r\nTURN FINISHED 5 0 5 0 0\r\n"

-- a set takes a free chunk before it puts dead ones back, so a dead item stays until its page moves
abbrev pub PopsBeforeItSweeps : Type 0
PopsBeforeItSweeps = replies (set_commands 1 7 61 0 ++ Delete 1 1 ∷ Set 1 8 61 0 ∷ Reassign (Some 4) 1 ∷ Turn 1 ∷ [])
    ≡ codes "STORED 1\r\nSTORED 2\r\nSTORED 3\r\nSTORED 4\r\nSTORED 5\r\nSTORED 6\r\nSTORED 7\r\nDELETED 1\r\nSTORED 8\r\nOK\r\nTURN FINISHED 2 0 1 0 0\r\n"

-- a sweep puts the dead back as they were last handed out or touched, and a set takes the one that was put back last
abbrev pub TouchedDeadIsLast : Type 0
TouchedDeadIsLast = replies (set_commands 1 8 61 0 ++ Touch 1 1 ∷ Delete 1 1 ∷ Delete 1 8 ∷ Set 1 9 61 0 ∷ Reassign (Some 4) 1 ∷ Turn 1 ∷ [])
    ≡ codes "STORED 1\r\nSTORED 2\r\nSTORED 3\r\nSTORED 4\r\nSTORED 5\r\nSTORED 6\r\nSTORED 7\r\nSTORED 8\r\nTOUCHED 1\r\nDELETED 1\r\nDELETED 8\r\nSTORED 9\r\nOK\r\nTURN FINISHED 2 1 1 0 0\r\n"

-- a held chunk whose item was deleted is a candidate for an eviction too
abbrev pub UnlinkedIsACandidate : Type 0
UnlinkedIsACandidate = replies (set_commands 1 8 61 0 ++ Hold 1 1 ∷ Hold 1 2 ∷ Hold 1 3 ∷ Hold 1 4 ∷ Hold 1 5 ∷ Delete 1 1 ∷ Set 1 9 61 0 ∷ Touch 1 6 ∷ [])
    ≡ codes "STORED 1\r\nSTORED 2\r\nSTORED 3\r\nSTORED 4\r\nSTORED 5\r\nSTORED 6\r\nSTORED 7\r\nSTORED 8\r\nHELD 1\r\nHELD 2\r\nHELD 3\r\nHELD 4\r\nHELD 5\r\nDELETED 1\r\nNO_ROOM 9\r\nTOUCHED 6\r\n"

-- an eviction may take an item of the page that moves
abbrev pub VictimOnTheMovingPage : Type 0
VictimOnTheMovingPage = replies (set_commands 1 8 61 0 ++ Reassign (Some 4) 1 ∷ Set 1 9 61 0 ∷ Touch 1 1 ∷ Touch 1 3 ∷ [])
    ≡ codes "STORED 1\r\nSTORED 2\r\nSTORED 3\r\nSTORED 4\r\nSTORED 5\r\nSTORED 6\r\nSTORED 7\r\nSTORED 8\r\nOK\r\nSTORED 9\r\nNOT_FOUND 1\r\nTOUCHED 3\r\n"

-- a rescue looks for a free chunk behind those of the moving page too
abbrev pub RescueLooksBehindTheHead : Type 0
RescueLooksBehindTheHead = replies (set_commands 11 10 20 0 ++ Touch 1 11 ∷ Delete 1 11 ∷ Delete 1 16 ∷ Reassign (Some 3) 1 ∷ Turn 1 ∷ [])
    ≡ codes "STORED 11\r\nSTORED 12\r\nSTORED 13\r\nSTORED 14\r\nSTORED 15\r\nSTORED 16\r\nSTORED 17\r\nSTORED 18\r\nSTORED 19\r\nSTORED 20\r\nTOUCHED 11\r\nDELETED 11\r\nDELETED 16\r\nOK\r\nTURN FINISHED 5 1 3 0 0\r\n"

-- a page that moves away still counts as one of its class, and with more than two a class may be quiet
abbrev pub MovingPageCountsForQuiet : Type 0
MovingPageCountsForQuiet = replies_to (fresh_machine worked_classes 64 1) (set_commands 11 15 20 0 ++ set_commands 1 2 61 0 ++ Hold 1 11 ∷ Reassign (Some 3) 0 ∷ Set 1 3 61 0 ∷ Window ∷ Set 1 4 61 0 ∷ Window ∷ Set 1 5 61 0 ∷ Window ∷ [])
    ≡ codes "STORED 11\r\nSTORED 12\r\nSTORED 13\r\nSTORED 14\r\nSTORED 15\r\nSTORED 16\r\nSTORED 17\r\nSTORED 18\r\nSTORED 19\r\nSTORED 20\r\nSTORED 21\r\nSTORED 22\r\nSTORED 23\r\nSTORED 24\r\nSTORED 25\r\nSTORED 1\r\nSTORED 2\r\nHELD 11\r\nOK\r\nSTORED 3\r\nWINDOW none\r\nSTORED 4\r\nWINDOW none\r\nSTORED 5\r\nWINDOW 3 4 BUSY\r\n"

-- a set that evicts the old item of its own key counts as an eviction of the class
abbrev pub OwnOldItemCounts : Type 0
OwnOldItemCounts = replies_to (fresh_machine worked_classes 64 1) (set_commands 11 15 20 0 ++ set_commands 1 2 61 0 ++ Set 1 1 61 0 ∷ Window ∷ Set 1 2 61 0 ∷ Window ∷ Set 1 1 61 0 ∷ Window ∷ [])
    ≡ codes "STORED 11\r\nSTORED 12\r\nSTORED 13\r\nSTORED 14\r\nSTORED 15\r\nSTORED 16\r\nSTORED 17\r\nSTORED 18\r\nSTORED 19\r\nSTORED 20\r\nSTORED 21\r\nSTORED 22\r\nSTORED 23\r\nSTORED 24\r\nSTORED 25\r\nSTORED 1\r\nSTORED 2\r\nSTORED 1\r\nWINDOW none\r\nSTORED 2\r\nWINDOW none\r\nSTORED 1\r\nWINDOW 3 4 OK\r\n"

-- a set puts back the dead of its own class alone
abbrev pub SetSweepsItsOwnClass : Type 0
SetSweepsItsOwnClass = replies (set_commands 11 10 20 0 ++ set_commands 1 4 61 0 ++ Delete 1 11 ∷ Set 1 5 61 0 ∷ Delete 1 20 ∷ Set 1 21 20 0 ∷ Reassign (Some 3) 1 ∷ Turn 1 ∷ [])
    ≡ codes "STORED 11\r\nSTORED 12\r\nSTORED 13\r\nSTORED 14\r\nSTORED 15\r\nSTORED 16\r\nSTORED 17\r\nSTORED 18\r\nSTORED 19\r\nSTORED 20\r\nSTORED 1\r\nSTORED 2\r\nSTORED 3\r\nSTORED 4\r\nDELETED 11\r\nSTORED 5\r\nDELETED 20\r\nSTORED 21\r\nOK\r\nTURN FINISHED 5 0 4 0 0\r\n"

-- of the two rules of a window the one of evictions comes first, where class 1 has a page to spare too
abbrev pub EvictionRuleIsFirst : Type 0
EvictionRuleIsFirst = replies_to (fresh_machine (record worked_classes { limit = 8192 }) 64 1)
    (set_commands 101 63 3 0 ++ set_commands 11 15 20 0 ++ set_commands 1 4 61 0 ++ map (λ key. Delete 1 key) (range_with_len 101 59) ++ Automove 0 ∷ Set 1 5 61 0 ∷ Window ∷ Set 1 6 61 0 ∷ Window ∷ Automove 1 ∷ Set 1 7 61 0 ∷ Window ∷ [])
    ≡ codes "STORED 101\r\nSTORED 102\r\nSTORED 103\r\nSTORED 104\r\nSTORED 105\r\nSTORED 106\r\nSTORED 107\r\nSTORED 108\r\nSTORED 109\r\nSTORED 110\r\nSTORED 111\r\nSTORED 112\r\nSTORED 113\r\nSTORED 114\r\nSTORED 115\r\nSTORED 116\r\nSTORED 117\r\nSTORED 118\r\nSTORED 119\r\nSTORED 120\r\nSTORED 121\r\nSTORED 122\r\nSTORED 123\r\nSTORED 124\r\nSTORED 125\r\nSTORED 126\r\nSTORED 127\r\nSTORED 128\r\nSTORED 129\r\nSTORED 130\r\nSTORED 131\r\nSTORED 132\r\nSTORED 133\r\nSTORED 134\r\nSTORED 135\r\nSTORED 136\r\nSTORED 137\r\nSTORED 138\r\nSTORED 139\r\nSTORED 140\r\nSTORED 141\r\nSTORED 142\r\nSTORED 143\r\nSTORED 144\r\nSTORED 145\r\nSTORED 146\r\nSTORED 147\r\nSTORED 148\r\nSTORED 149\r\nSTORED 150\r\nSTORED 151\r\nSTORED 152\r\nSTORED 153\r\nSTORED 154\r\nSTORED 155\r\nSTORED 156\r\nSTORED 157\r\nSTORED 158\r\nSTORED 159\r\nSTORED 160\r\nSTORED 161\r\nSTORED 162\r\nSTORED 163\r\nSTORED 11\r\nSTORED 12\r\nSTORED 13\r\nSTORED 14\r\nSTORED 15\r\nSTORED 16\r\nSTORED 17\r\nSTORED 18\r\nSTORED 19\r\nSTORED 20\r\nSTORED 21\r\nSTORED 22\r\nSTORED 23\r\nSTORED 24\r\nSTORED 25\r\nSTORED 1\r\nSTORED 2\r\nSTORED 3\r\nSTORED 4\r\nDELETED 101\r\nDELETED 102\r\nDELETED 103\r\nDELETED 104\r\nDELETED 105\r\nDELETED 106\r\nDELETED 107\r\nDELETED 108\r\nDELETED 109\r\nDELETED 110\r\nDELETED 111\r\nDELETED 112\r\nDELETED 113\r\nDELETED 114\r\nDELETED 115\r\nDELETED 116\r\nDELETED 117\r\nDELETED 118\r\nDELETED 119\r\nDELETED 120\r\nDELETED 121\r\nDELETED 122\r\nDELETED 123\r\nDELETED 124\r\nDELETED 125\r\nDELETED 126\r\nDELETED 127\r\nDELETED 128\r\nDELETED 129\r\nDELETED 130\r\nDELETED 131\r\nDELETED 132\r\nDELETED 133\r\nDELETED 134\r\nDELETED 135\r\nDELETED 136\r\nDELETED 137\r\nDELETED 138\r\nDELETED 139\r\nDELETED 140\r\nDELETED 141\r\nDELETED 142\r\nDELETED 143\r\nDELETED 144\r\nDELETED 145\r\nDELETED 146\r\nDELETED 147\r\nDELETED 148\r\nDELETED 149\r\nDELETED 150\r\nDELETED 151\r\nDELETED 152\r\nDELETED 153\r\nDELETED 154\r\nDELETED 155\r\nDELETED 156\r\nDELETED 157\r\nDELETED 158\r\nDELETED 159\r\nOK\r\nSTORED 5\r\nWINDOW none\r\nSTORED 6\r\nWINDOW none\r\nOK\r\nSTORED 7\r\nWINDOW 1 4 OK\r\n"

-- an item that the mover evicts is no eviction of its class, so the class stays quiet
abbrev pub MoverEvictionsAreApart : Type 0
MoverEvictionsAreApart = replies_to (fresh_machine (record worked_classes { limit = 8192 }) 64 1)
    (set_commands 11 20 20 0 ++ set_commands 1 8 61 0 ++ Reassign (Some 3) 0 ∷ Turn 1 ∷ Set 1 9 3 0 ∷ Set 1 50 61 0 ∷ Window ∷ Set 1 51 61 0 ∷ Window ∷ Set 1 52 61 0 ∷ Window ∷ [])
    ≡ codes "STORED 11\r\nSTORED 12\r\nSTORED 13\r\nSTORED 14\r\nSTORED 15\r\nSTORED 16\r\nSTORED 17\r\nSTORED 18\r\nSTORED 19\r\nSTORED 20\r\nSTORED 21\r\nSTORED 22\r\nSTORED 23\r\nSTORED 24\r\nSTORED 25\r\nSTORED 26\r\nSTORED 27\r\nSTORED 28\r\nSTORED 29\r\nSTORED 30\r\nSTORED 1\r\nSTORED 2\r\nSTORED 3\r\nSTORED 4\r\nSTORED 5\r\nSTORED 6\r\nSTORED 7\r\nSTORED 8\r\nOK\r\nTURN FINISHED 5 0 5 0 0\r\nSTORED 9\r\nSTORED 50\r\nWINDOW none\r\nSTORED 51\r\nWINDOW none\r\nSTORED 52\r\nWINDOW 3 4 OK\r\n"

-- the words that the answers of a run show: key 1 was stored anew while it was held, and a third set of it was refused. Key 2 was deleted
-- while it was held. The last hold of key 1 was dropped
abbrev pub WordsFromAnswers : Type 0
WordsFromAnswers = let told = answers (fresh_machine worked_classes 64 0) (
    Set 1 1 3 7 ∷ Hold 1 1 ∷ Set 1 1 2 50 ∷ Set 2 2 1 9 ∷ Hold 1 2 ∷ Delete 2 2 ∷ Hold 1 1 ∷ Drop 1 1 ∷ Drop 2 1 ∷ Set 1 1 100 0 ∷ []
    ) [] in
    (last_words 1 told ≡ Some (50 ∷ 51 ∷ [])) × (last_words 2 told ≡ None)
    × (held_words 1 told ≡ record { key = 2; words = 9 ∷ [] } ∷ record { key = 1; words = 7 ∷ 8 ∷ 9 ∷ [] } ∷ []) × (held_words 2 told ≡ [])

-- these commands with their replies, the last first
abbrev answers_of : List Command → List AnsweredCommand
answers_of commands = answers (fresh_machine worked_classes 64 0) commands []

-- what the answers show of key 1. The key is seen after windows, statistics, a refused drop and a refused set; not after another key's
-- stored set, a turn or a delete; and again after a get. A hold of the key counts until it is dropped, and not after a stored set of the
-- key or a delete
abbrev pub SeenFromAnswers : Type 0
SeenFromAnswers =
    (is_seen 1 (answers_of (Set 1 1 3 7 ∷ Window ∷ Stats ∷ StatsSlabs ∷ Drop 1 1 ∷ Set 1 1 100 0 ∷ Reassign (Some 4) 1 ∷ Automove 1 ∷ [])) ≡ true)
    × (is_seen 1 (answers_of (Set 1 1 3 7 ∷ Set 1 2 3 9 ∷ [])) ≡ false) × (is_seen 1 (answers_of (Set 1 1 3 7 ∷ Turn 1 ∷ [])) ≡ false)
    × (is_seen 1 (answers_of (Set 1 1 3 7 ∷ Hold 2 1 ∷ Delete 1 1 ∷ [])) ≡ false) × (is_seen 1 (answers_of (Set 1 1 3 7 ∷ Turn 1 ∷ Get 2 1 ∷ [])) ≡ true)
    × (is_seen 1 (answers_of (Set 1 2 3 7 ∷ Get 1 1 ∷ Touch 1 1 ∷ [])) ≡ false)
    × (holds_now 2 1 (answers_of (Set 1 1 3 7 ∷ Hold 2 1 ∷ Hold 2 1 ∷ Hold 2 1 ∷ Set 1 2 3 9 ∷ Turn 1 ∷ Drop 2 1 ∷ Drop 2 2 ∷ [])) ≡ 2)
    × (holds_now 1 1 (answers_of (Set 1 1 3 7 ∷ Hold 2 1 ∷ [])) ≡ 0) × (holds_now 2 1 (answers_of (Set 1 1 3 7 ∷ Hold 2 1 ∷ Delete 1 1 ∷ [])) ≡ 0)
    × (holds_now 2 1 (answers_of (Set 1 1 3 7 ∷ Hold 2 1 ∷ Set 1 1 3 9 ∷ Hold 2 1 ∷ Drop 2 1 ∷ [])) ≡ 0)

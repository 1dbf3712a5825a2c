-- What a list of keeps and drops comes to, told from the list and its answers alone.
use Rattle.std.specs.Prelude.{◌≡◌, ℕ, zero, suc, ◌+◌, ◌<◌, ◌≤◌, Bool, true, false, cond, ◌&&◌, List, [], ◌∷◌, ◌++◌, map, length, Some, None, ◌==◌, ◌≢◌}
use Rattle.hold.specs.Meaning.{Frame, Cell, Cells, cell_at, size, bytes_held}

-- one operation as it went, with whether it stored a frame: a keep has its place and its frame, a drop its place
pub data Event : Type 0 where
  kept : ℕ → Frame → Bool → Event
  dropped : ℕ → Bool → Event

-- the operations since the hold was empty, the newest first
abbrev pub History : Type 0
History = List Event

-- what place k holds: the frame of the last keep that stored there since the last drop
unfoldable pub holds_at : History → ℕ → Cell
holds_at [] k = None
holds_at (kept j f stored ∷ h) k = cond (stored && j == k) (Some f) (holds_at h k)
holds_at (dropped j stored ∷ h) k = cond (j == k) None (holds_at h k)

-- nothing was stored at place k and nothing dropped from it
abbrev pub Untouched : ℕ → History → Type 0
Untouched k [] = Unit {0}
Untouched k (kept j f stored ∷ h) = (stored ≡ true → j ≢ k) × Untouched k h
Untouched k (dropped j stored ∷ h) = (j ≢ k) × Untouched k h

-- the same said of the list as a whole: somewhere in it a keep stored the frame f at place k, and since then the place was
-- untouched
pub record LastKept (h : History) (k : ℕ) (f : Frame) : Type 0 where
  pub newer : History
  pub older : History
  pub whole : h ≡ newer ++ (kept k f true ∷ older)
  pub since : Untouched k newer

-- the bytes of what the places below p hold, added up
unfoldable pub bytes_below : ℕ → History → ℕ
bytes_below zero h = 0
bytes_below (suc p) h = bytes_below p h + size (holds_at h p)

-- a keep of the frame at place k is to store it: there is such a place, it is empty, the frame has 23 to 1,023 bytes,
-- and with it no more than `most` bytes are held
pub record MayStore (places most : ℕ) (h : History) (k : ℕ) (f : Frame) : Type 0 where
  pub below : k < places
  pub empty : holds_at h k ≡ None
  pub long : 23 ≤ length f
  pub short : length f ≤ 1023
  pub room : bytes_below places h + length f ≤ most

-- a keep stores exactly if it may; a drop stores nothing
abbrev pub Right : ℕ → ℕ → History → Event → Type 0
Right places most h (kept k f stored) = (stored ≡ true → MayStore places most h k f) × (MayStore places most h k f → stored ≡ true)
Right places most h (dropped k stored) = stored ≡ false

-- each answer is right after the operations before it
abbrev pub AllRight : ℕ → ℕ → History → Type 0
AllRight places most [] = Unit {0}
AllRight places most (e ∷ h) = Right places most h e × AllRight places most h

-- the law of a hold with so many places and so many bytes at most, whose cells are cs after the operations h
pub record Law (places most : ℕ) (h : History) (cs : Cells) : Type 0 where
  pub number : length cs ≡ places
  pub answers : AllRight places most h
  pub held : (k : ℕ) → cell_at cs k ≡ holds_at h k
  pub last : (k : ℕ) (f : Frame) → (cell_at cs k ≡ Some f → LastKept h k f) × (LastKept h k f → cell_at cs k ≡ Some f)
  pub bytes : bytes_held cs ≡ bytes_below places h
  pub within : bytes_held cs ≤ most

-- what was asked, without the answer
abbrev pub asked : Event → Event
asked (kept k f stored) = kept k f false
asked (dropped k stored) = dropped k false

-- two lists of the same operations, both answered right, are answered alike
abbrev pub Decided : Type 0
Decided = (places most : ℕ) (g h : History) → map asked g ≡ map asked h → AllRight places most g → AllRight places most h → g ≡ h

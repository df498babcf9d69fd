-- An entry of which each word was copied, and a pass that did nothing behind that.
use Rattle.std.specs.Prelude.{◌≡◌, Contains}
use Rattle.wal_page.specs.EntryWords.{words_owned}
use Rattle.wal_page.specs.Order.{Entry}
use Rattle.machine_state.specs.Moves.{without_work}
use Rattle.machine_state.specs.Views.{Copy, Copying, View}
use Rattle.machine_laws.specs.SoundLocks.{IsCopiedWhole}
use Rattle.wal_rule.specs.Stepping.{Stands}
use Rattle.wal_log.specs.Standing.{KeepsPass}

-- a view stands in a state that the rule allows, in which the order has this entry, and each of its
-- words is the log's where the ring has its page
pub record StandsWhole (v : View) (e : Entry) : Type 0 where
  pub stands : Stands v
  pub in_order : Contains (stands.sound).order e
  pub words : IsCopiedWhole v.opening (stands.sound).order stands.words e

-- a pass that had this view before a call, and has that one behind it, had the entry in flight in
-- between, with each of its words copied: it stood whole then
pub record CopiesWhole (old new : View) (e : Entry) : Type 0 where
  pub view : View
  pub since : KeepsPass old view
  pub until : KeepsPass view new
  pub copy : Copy
  pub in_flight : (view.working).flight ≡ Copying copy
  pub entry_is : copy.entry ≡ e
  pub none_left : copy.copied ≡ words_owned ((view.opening).setup).seg_size e
  pub whole : ∥ StandsWhole view e ∥₁

-- and that was the last of the call that the pass's view tells: the view with which each word was
-- copied is the one behind it, but that the locks were given back. So behind the copy it met no
-- higher page and watched nobody. (A turn that is taken and given back leaves no trace in a view.)
pub record CopiesLast (old new : View) (e : Entry) : Type 0 where
  pub copied : CopiesWhole old new e
  pub last : new ≡ without_work copied.view

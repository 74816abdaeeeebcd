-- The inboxes of workers, between one window and the next.
use Rattle.std.specs.Prelude.{ℕ, ◌≡◌, ◌≤◌, length}
use Rattle.gp_inbox.specs.declared.rule.View.{View}
use Rattle.gp_inbox.specs.Views.{IsWhole}
use Rattle.gp_workers.specs.declared.post.Post.{Post}
use Rattle.gp_workers.specs.Desk.{PassesAre}
use Rattle.gp_workers.specs.Sharing.{others}

-- the pass of the inbox of the worker at a place is whole, and its senders are the others of so many workers
pub record IsWholeOf (count place : ℕ) (seen : View) : Type 0 where
  pub whole : IsWhole seen
  pub senders : seen.senders ≡ others count place

-- there is no inbox, or one of each of so many workers, and a pass of each that can be renewed
pub record IsPost (count : ℕ) (post : Post) : Type 0 where
  pub all : 1 ≤ length post.inboxes.items → length post.inboxes.items ≡ count
  pub each : PassesAre post.inboxes.items (IsWholeOf count) post.passes.items

-- The history of an inbox.
use Rattle.std.specs.Prelude.{ℕ, ◌≡◌, ◌==◌, List, [], ◌∷◌, ◌++◌, filter}
use Rattle.gp_derivation.specs.declared.exchange.SharedClause.{SharedClause}

-- the clauses that were taken from an inbox, followed by those that it holds
abbrev pub history : List SharedClause → List SharedClause → List SharedClause
history taken held = taken ++ held

-- the clauses of a sender, in order
abbrev pub sent_by : ℕ → List SharedClause → List SharedClause
sent_by sender clauses = filter (λ (clause : SharedClause). clause.sender == sender) clauses

-- for each sender, its clauses in the history are exactly what it pushed, in order
abbrev pub IsHistory : (ℕ → List SharedClause) → List SharedClause → Type 0
IsHistory pushes clauses = (sender : ℕ) → sent_by sender clauses ≡ pushes sender

-- a clause that is pushed comes to the end of the history, and a clause that is taken stays where it is in it
pub record HistoryMoves : Type 0 where
  pub push : (taken held : List SharedClause) (clause : SharedClause) → history taken (held ++ clause ∷ []) ≡ history taken held ++ clause ∷ []
  pub take : (taken held : List SharedClause) (clause : SharedClause) → history (taken ++ clause ∷ []) held ≡ history taken (clause ∷ held)

-- How long a list of records is after more were appended.
use Rattle.std.proofs.Common.{◌≡◌, ℕ, ◌+◌, ◌≤◌, List, length, ap, arith, length-append}
use Rattle.std.proofs.lemmas.List.{length-map}
use Rattle.port_msg.specs.RecView.{RecView, appended_all, record_of, records_at}
use Rattle.port_msg.specs.declared.records.What.{What}

pub few_more : (r q : RecView) (whats : List What) (n : ℕ) → q ≡ appended_all r whats → length whats ≤ n → length q.items ≤ length r.items + n
few_more r q whats n e f = omega (arith, f, ap (λ (x : RecView). length x.items) e, length-append r.items (records_at r.at r.actor whats), length-map whats (record_of r.at r.actor))

pub same_room : (r q : RecView) (whats : List What) → q ≡ appended_all r whats → q.room ≡ r.room
same_room r q whats e = ap (λ (x : RecView). x.room) e

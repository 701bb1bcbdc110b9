-- A buffer into which keys were put holds the keys at its front, as many as it has room for: the code's bag is the account's, cut to the buffer.
-- Assumes nothing.
use mathlib.Core.Path.{sym, subst}
use Prim.Native.Nat.{ℕ, zero, suc, ◌+◌}
use mathlib.Core.List.{List, [], ◌∷◌, ◌++◌, map, append_assoc, append-nil}
use lib.ListN.{length}
use Rattle.law_base.specs.Keys.{key_of}
use Rattle.law_stores.specs.Put.{put1}
use Rattle.law_stores.proofs.Fronts.{Front, front-none, front-put}
use Rattle.spec_step.specs.Put.{puts, put_ports, keys_of}

-- values on one port
pub front-puts : (room port : ℕ) (vs : List ℕ) (st : List ℕ × ℕ) (ks : List ℕ) → Front room st ks → Front room (puts port vs st) (ks ++ map (key_of port) vs)
unfolding puts
front-puts room port [] st ks f = subst (Front room st) (sym (append-nil ks)) f
front-puts room port (v ∷ vs) st ks f =
    subst (Front room (puts port vs (put1 (key_of port v) st))) (append_assoc ks (key_of port v ∷ []) (map (key_of port) vs))
    (front-puts room port vs (put1 (key_of port v) st) (ks ++ key_of port v ∷ []) (front-put room (key_of port v) st ks f))

-- all ports of a bag
pub front-ports : (room : ℕ) (values : ℕ → List ℕ) (n q : ℕ) (st : List ℕ × ℕ) (ks : List ℕ) → Front room st ks → Front room (put_ports values n q st) (ks ++ keys_of values n q)
unfolding put_ports keys_of
front-ports room values zero q st ks f = subst (Front room st) (sym (append-nil ks)) f
front-ports room values (suc n) q st ks f =
    subst (Front room (put_ports values n (q + 1) (puts q (values q) st))) (append_assoc ks (map (key_of q) (values q)) (keys_of values n (q + 1)))
    (front-ports room values n (q + 1) (puts q (values q) st) (ks ++ map (key_of q) (values q)) (front-puts room q (values q) st ks f))

-- a whole bag put into a buffer from its beginning: its first keys, and how many they are
pub bag-front : (values : ℕ → List ℕ) (n q : ℕ) (b : List ℕ) → Front (length b) (put_ports values n q (b, 0)) (keys_of values n q)
bag-front values n q b = front-ports (length b) values n q (b, 0) [] (front-none b)

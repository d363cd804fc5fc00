-- What a source has given and a sink has taken, call after call.
use Rattle.std.proofs.Common.{◌≡◌, ℕ, ◌+◌, List, [], ◌++◌, take, drop, length, Option, Some, None, refl, sym, ap, subst, ◌∙◌, append_assoc}
use Rattle.std.proofs.lemmas.List.{append-nil, take-append-drop}
use Rattle.std.proofs.Math.Seq.{take-add, take-append-add}
use Rattle.room_ports.specs.Bytes.{Gives, Takes, TakesFront}

-- nothing was given
pub gives-nothing : (told : Option (List ℕ)) → Gives told told []
gives-nothing None = tt
gives-nothing (Some a) = refl

-- these bytes, and then those
pub gives-gives : (before mid after : Option (List ℕ)) (xs ys : List ℕ)
    → Gives before mid xs → Gives mid after ys → Gives before after (xs ++ ys)
gives-gives None mid after xs ys h k = tt
gives-gives (Some a) None after xs ys h k = absurd h
gives-gives (Some a) (Some b) None xs ys h k = absurd k
gives-gives (Some a) (Some b) (Some c) xs ys h k = h ∙ (ap (λ t. xs ++ t) k ∙ sym (append_assoc xs ys c))

-- nothing was taken
pub takes-nothing : (told : Option (List ℕ)) → Takes told told []
takes-nothing None = tt
takes-nothing (Some a) = sym (append-nil a)

-- these bytes, and then those
pub takes-takes : (before mid after : Option (List ℕ)) (xs ys : List ℕ)
    → Takes before mid xs → Takes mid after ys → Takes before after (xs ++ ys)
takes-takes before mid None xs ys h k = tt
takes-takes before None (Some c) xs ys h k = absurd k
takes-takes None (Some b) (Some c) xs ys h k = absurd h
takes-takes (Some a) (Some b) (Some c) xs ys h k = k ∙ (ap (λ t. t ++ ys) h ∙ append_assoc a xs ys)

-- these bytes, and then a front of those
pub takes-takes_front : (before mid after : Option (List ℕ)) (xs ys : List ℕ)
    → Takes before mid xs → TakesFront mid after ys → TakesFront before after (xs ++ ys)
takes-takes_front before mid None xs ys h k = tt
takes-takes_front before None (Some c) xs ys h k = absurd k
takes-takes_front None (Some b) (Some c) xs ys h k = absurd h
takes-takes_front (Some a) (Some b) (Some c) xs ys h (n, e) =
    (length xs + n, takes-takes (Some a) (Some b) (Some c) xs (take n ys) h e ∙ ap (λ t. a ++ t) (sym (take-append-add xs ys n)))

-- after the first d of the bytes, n more of the rest
pub takes-more : (before mid after : Option (List ℕ)) (bytes rest : List ℕ) (d n : ℕ) → rest ≡ drop d bytes
    → Takes before mid (take d bytes) → Takes mid after (take n rest) → Takes before after (take (d + n) bytes)
takes-more before mid after bytes rest d n from h k =
    let e : take d bytes ++ take n rest ≡ take (d + n) bytes =
    ap (λ r. take d bytes ++ take n r) from ∙ sym (take-add d n bytes) in
    subst (λ xs. Takes before after xs) e (takes-takes before mid after (take d bytes) (take n rest) h k)

-- after the first d of the bytes, a front of the rest
pub takes_front-more : (before mid after : Option (List ℕ)) (bytes rest : List ℕ) (d : ℕ) → rest ≡ drop d bytes
    → Takes before mid (take d bytes) → TakesFront mid after rest → TakesFront before after bytes
takes_front-more before mid after bytes rest d from h k =
    subst (λ xs. TakesFront before after xs) (ap (λ r. take d bytes ++ r) from ∙ take-append-drop d bytes)
    (takes-takes_front before mid after (take d bytes) rest h k)

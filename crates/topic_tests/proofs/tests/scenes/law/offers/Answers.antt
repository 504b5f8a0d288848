use Rattle.topic_tests.proofs.tests.scenes.law.offers.Goals as goal

pub offer-requires : goal.offer-requires
offer-requires g c = c.in_ok-on_join.ensures.ok _ _ c.requires.joins c.in_ok-dispatcher.ensures.ok

pub offer-requires-2 : goal.offer-requires-2
offer-requires-2 g c =
    g.met.D.Dispatcher.kept _ _ _ (c.in_ok-on_join.ensures.ok _ _ c.requires.joins c.in_ok-dispatcher.ensures.ok) _ _ c.requires.stores

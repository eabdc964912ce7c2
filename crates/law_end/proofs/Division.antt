-- A capture divides into deeds, strays and answers to strays in one way: that of its routes (law
-- `a_list_divides_in_one_way`; RFC 1350, section 4).
--
-- First from a division to routes. What the labels of a division say (Divided), where they stand (Placing), which tests
-- tell a route (RouteTests) and how a transfer opens (Opening) give each label its route, at a client (ClientRoutes) and
-- at a server (ServerRoutes); Routed puts the two together.
--
-- Then back. What a route tells of a datagram (RoutesBack), and that nothing came where nothing was asked (Unasked),
-- give each datagram its label, at a client (ClientLabels) and at a server (ServerLabels); Parted puts the two together.
-- OneDivision: both ways, so there is one division at most.
pub mod Divided
pub mod Placing
pub mod RouteTests
pub mod Opening
pub mod ClientRoutes
pub mod ServerRoutes
pub mod Routed
pub mod RoutesBack
pub mod Unasked
pub mod ClientLabels
pub mod ServerLabels
pub mod Parted
pub mod OneDivision
